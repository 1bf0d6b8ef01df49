-- How far the fields of a message were judged.
use Rattle.std.specs.Prelude.{◌≡◌, ◌≢◌, ℕ, List, [], ◌∷◌, ◌++◌, Result, MatchResult}
use Rattle.std.specs.List.{flat_map}
use Rattle.svid_replay.specs.Summary.{IsSummary}
use Rattle.svid_wire.specs.BatchText.{IsBatchIn, batch_kind, head_text, batch_text_in}
use Rattle.svid_wire.specs.Versions.{magic_of, use_len_of, use_text}
use Rattle.svid_wire.specs.SummaryText.{summary_kind, summary_head, digest_text, summary_text}
use Rattle.svid_wire.specs.WireFault.{IsBegun, AreBegun, IsFieldRefusal}
use Rattle.svid_wire.specs.declared.stage.Stage.{Stage}
use Rattle.svid_wire.specs.declared.stage.Stage.TheVariants.{Magic, Kind, MomentAndCount, Uses, Moment, Digests}
use Rattle.svid_wire.specs.declared.stage.Progress.{Progress}
use Rattle.svid_wire.specs.declared.stage.Progress.TheVariants.{More, Batch, Summary}
use Rattle.svid_wire.specs.declared.version.Version.{Version}
use Rattle.svid_wire.specs.declared.version.Version.TheVariants.{One, Two}
use Rattle.svid_wire.specs.declared.wire_fault.WireFault.{WireFault}

-- the bytes of the fields that were judged good
abbrev pub stage_text : Stage → List ℕ
stage_text Magic = []
stage_text (Kind v) = magic_of v
stage_text (MomentAndCount v) = magic_of v ++ batch_kind ∷ []
stage_text (Uses v moment count uses) = head_text v moment count ++ flat_map (use_text v) uses.items
stage_text Moment = magic_of Two ++ summary_kind ∷ []
stage_text (Digests moment digests) = summary_head moment ++ flat_map digest_text digests.items

-- such fields can begin a message, and more of it is to come
abbrev pub IsStage : Stage → Type 0
IsStage Magic = Unit {0}
IsStage (Kind v) = Unit {0}
IsStage (MomentAndCount v) = Unit {0}
IsStage (Uses v moment count uses) = IsBegun v moment count uses.items
IsStage Moment = Unit {0}
IsStage (Digests moment digests) = AreBegun moment digests.items

-- how many bytes the next field has
abbrev pub field_len : Stage → ℕ
field_len Magic = 4
field_len (Kind v) = 1
field_len (MomentAndCount v) = 12
field_len (Uses v moment count uses) = use_len_of v
field_len Moment = 8
field_len (Digests moment digests) = 32

-- the bytes are the good fields of this stage, or the whole text of this message
abbrev pub Reaches : List ℕ → Progress → Type 0
Reaches bytes (More stage) = IsStage stage × (stage_text stage ≡ bytes)
Reaches bytes (Batch v batch) = IsBatchIn v batch × (batch_text_in v batch ≡ bytes)
Reaches bytes (Summary moment digests) = IsSummary (record { moment = moment; digests = digests.items }) × (summary_text (record { moment = moment; digests = digests.items }) ≡ bytes)

-- the last byte of a use in version 2 is neither 0 nor 1; in version 1 there is no such byte
abbrev pub IsNoUse : Version → List ℕ → Type 0
IsNoUse One field = ⊥
IsNoUse Two field = (front : List ℕ) × (kind : ℕ) × (field ≡ front ++ kind ∷ []) × (kind ≢ 0) × (kind ≢ 1)

-- the result of judging these bytes, all of them in whole fields: how far they reach, or that the last field is bad
abbrev pub Judges : List ℕ → Result Progress WireFault → Type 0
Judges bytes r = MatchResult r (Reaches bytes) (IsFieldRefusal bytes)
