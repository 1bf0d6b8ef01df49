-- What is wrong with bytes that do not begin with a message.
use Rattle.std.specs.Prelude.{◌≡◌, ◌≢◌, ℕ, ◌+◌, ◌*◌, ◌^◌, ◌<◌, ◌≤◌, ◌⊎◌, List, ◌∷◌, ◌++◌, length, take, None, Some}
use Rattle.std.specs.List.{AllByRecursion, flat_map}
use Rattle.svid_replay.specs.declared.token_use.Use.{Use}
use Rattle.svid_replay.specs.declared.flaw.Flaw.{Flaw}
use Rattle.svid_replay.specs.declared.flaw.Flaw.TheVariants.{Expired, Future, Order}
use Rattle.svid_replay.specs.Use.{IsBytes, IsUse}
use Rattle.svid_replay.specs.Batches.{AllGood, last_of, flaw}
use Rattle.svid_wire.specs.BatchText.{batch_kind, head_text}
use Rattle.svid_wire.specs.Versions.{CanTell, magic_of, most_of, use_len_of, use_text}
use Rattle.svid_wire.specs.SummaryText.{summary_kind, summary_head, digest_text}
use Rattle.svid_wire.specs.declared.reason.Reason.{Reason}
use Rattle.svid_wire.specs.declared.reason.Reason.TheVariants as reason
use Rattle.svid_wire.specs.declared.version.Version.{Version}
use Rattle.svid_wire.specs.declared.version.Version.TheVariants.{One, Two}
use Rattle.svid_wire.specs.declared.wire_fault.WireFault.{WireFault}

-- these are the first uses of a batch of this version, moment and count, all good, and at least one is to come
pub record IsBegun (v : Version) (moment count : ℕ) (uses : List Use) : Type 0 where
  pub moment_fits : moment < 2 ^ 64
  pub few : count ≤ most_of v
  pub more : length uses < count
  pub fields : AllByRecursion IsUse uses
  pub tells : AllByRecursion (CanTell v) uses
  pub good : AllGood moment None uses

-- these are the first digests of a summary of this moment, and at least one is to come
pub record AreBegun (moment : ℕ) (digests : List (List ℕ)) : Type 0 where
  pub moment_fits : moment < 2 ^ 64
  pub more : length digests < 256
  pub fields : AllByRecursion (IsBytes 32) digests

-- something is wrong with the use after the good ones
pub record IsUseFault (bytes : List ℕ) (offset : ℕ) (found : Flaw) : Type 0 where
  pub version : Version
  pub moment : ℕ
  pub count : ℕ
  pub uses : List Use
  pub bad : Use
  pub after : List ℕ
  pub parts : bytes ≡ head_text version moment count ++ (flat_map (use_text version) uses ++ (use_text version bad ++ after))
  pub begun : IsBegun version moment count uses
  pub fields : IsUse bad
  pub tells : CanTell version bad
  pub flawed : flaw moment (last_of None uses) bad ≡ Some found
  pub at : offset ≡ 17 + use_len_of version * length uses

-- in version 2 the last byte of the use after the good ones is neither 0 nor 1
pub record IsUseKindFault (bytes : List ℕ) (offset : ℕ) : Type 0 where
  pub moment : ℕ
  pub count : ℕ
  pub uses : List Use
  pub front : List ℕ
  pub kind : ℕ
  pub after : List ℕ
  pub parts : bytes ≡ head_text Two moment count ++ (flat_map (use_text Two) uses ++ (front ++ kind ∷ after))
  pub begun : IsBegun Two moment count uses
  pub size : length front ≡ 64
  pub no_use : kind ≢ 0
  pub no_withdrawal : kind ≢ 1
  pub at : offset ≡ 17 + 65 * length uses

-- this version has summaries
abbrev pub HasSummaries : Version → Type 0
HasSummaries One = ⊥
HasSummaries Two = Unit {0}

-- the kind is not that of a batch, nor, in version 2, that of a summary
pub record IsKindFault (bytes : List ℕ) : Type 0 where
  pub version : Version
  pub kind : ℕ
  pub after : List ℕ
  pub parts : bytes ≡ magic_of version ++ kind ∷ after
  pub no_batch : kind ≢ batch_kind
  pub no_summary : HasSummaries version → kind ≢ summary_kind

-- the batch announces too many uses
pub record IsCountFault (bytes : List ℕ) : Type 0 where
  pub version : Version
  pub moment : ℕ
  pub count : ℕ
  pub after : List ℕ
  pub parts : bytes ≡ head_text version moment count ++ after
  pub moment_fits : moment < 2 ^ 64
  pub count_fits : count < 2 ^ 32
  pub many : most_of version < count

-- Each field that lies whole in the bytes is good, and another one is to come.
pub data IsUnfinished (bytes : List ℕ) : Type 0 where
  in_magic : length bytes < 4 → IsUnfinished bytes
  in_kind : (v : Version) → bytes ≡ magic_of v → IsUnfinished bytes
  in_moment_and_count : (v : Version) (part : List ℕ) → bytes ≡ magic_of v ++ batch_kind ∷ part → length part < 12 → IsUnfinished bytes
  in_uses : (v : Version) (moment count : ℕ) (uses : List Use) (part : List ℕ) → IsBegun v moment count uses → bytes ≡ head_text v moment count ++ (flat_map (use_text v) uses ++ part) → length part < use_len_of v → IsUnfinished bytes
  in_moment : (part : List ℕ) → bytes ≡ magic_of Two ++ summary_kind ∷ part → length part < 8 → IsUnfinished bytes
  in_digests : (moment : ℕ) (digests : List (List ℕ)) (part : List ℕ) → AreBegun moment digests → bytes ≡ summary_head moment ++ (flat_map digest_text digests ++ part) → length part < 32 → IsUnfinished bytes

-- The first bad field that lies whole in the bytes begins at this offset, and is bad for this reason; or no such field is bad,
-- the bytes end before a message does, and the offset is their number. Out of memory and an earlier refusal are no faults of
-- bytes.
abbrev pub IsFaultFor : Reason → List ℕ → ℕ → Type 0
IsFaultFor reason.Magic bytes offset = (offset ≡ 0) × (4 ≤ length bytes) × ((v : Version) → take 4 bytes ≢ magic_of v)
IsFaultFor reason.Kind bytes offset = (offset ≡ 4) × IsKindFault bytes
IsFaultFor reason.Count bytes offset = (offset ≡ 13) × IsCountFault bytes
IsFaultFor reason.UseKind bytes offset = IsUseKindFault bytes offset
IsFaultFor reason.UseExpired bytes offset = IsUseFault bytes offset Expired
IsFaultFor reason.UseFuture bytes offset = IsUseFault bytes offset Future
IsFaultFor reason.UseOrder bytes offset = IsUseFault bytes offset Order
IsFaultFor reason.Truncated bytes offset = (offset ≡ length bytes) × (0 < length bytes) × IsUnfinished bytes
IsFaultFor reason.OutOfMemory bytes offset = ⊥
IsFaultFor reason.Failed bytes offset = ⊥

-- such an offset and reason, together
abbrev pub IsFault : List ℕ → WireFault → Type 0
IsFault bytes fault = IsFaultFor fault.reason bytes fault.offset

-- a bad field, however many bytes follow it
abbrev pub IsFieldFault : List ℕ → WireFault → Type 0
IsFieldFault bytes fault = IsFault bytes fault × (fault.reason ≢ reason.Truncated)

-- the reason that names what is wrong with a use
abbrev pub flaw_reason : Flaw → Reason
flaw_reason Expired = reason.UseExpired
flaw_reason Future = reason.UseFuture
flaw_reason Order = reason.UseOrder

-- out of memory
abbrev pub no_memory : WireFault
no_memory = record { offset = 0; reason = reason.OutOfMemory }

-- the possible refusals of such bytes, whatever follows them: a bad field, or out of memory
abbrev pub IsFieldRefusal : List ℕ → WireFault → Type 0
IsFieldRefusal bytes fault = IsFieldFault bytes fault ⊎ (fault ≡ no_memory)

-- the possible refusals of such bytes, where none follow
abbrev pub IsRefusal : List ℕ → WireFault → Type 0
IsRefusal bytes fault = IsFault bytes fault ⊎ (fault ≡ no_memory)

-- bytes have at most one fault
abbrev pub FaultIsUnique : Type 0
FaultIsUnique = (bytes : List ℕ) (x y : WireFault) → IsFault bytes x → IsFault bytes y → x ≡ y

-- a bad field is still the fault when bytes follow
abbrev pub FieldFaultStays : Type 0
FieldFaultStays = (bytes more : List ℕ) (fault : WireFault) → IsFieldFault bytes fault → IsFieldFault (bytes ++ more) fault
