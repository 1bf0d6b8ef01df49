use Rattle.std.proofs.Common.{◌≡◌, ℕ, ◌-◌, ◌^◌, ◌<◌, List, [], ◌∷◌, ◌++◌, length, refl, sym, subst, ap, ◌∙◌, arith, Option, None, Some, append_assoc, append-nil}
use Rattle.std.specs.List.{flat_map, slice_get, AllByRecursion}
use Rattle.std.proofs.lemmas.List.{nil_from_length, flat_map_more}
use Rattle.svid_replay.specs.declared.token_use.Use.{Use}
use Rattle.svid_replay.specs.declared.flaw.Flaw.{Flaw}
use Rattle.svid_replay.specs.declared.flaw.Flaw.TheVariants.{Expired, Future, Order}
use Rattle.svid_replay.specs.Use.{IsBytes}
use Rattle.svid_replay.specs.Batches.{last_of}
use Rattle.svid_replay.proofs.BatchesLemmas.{AllByRecursion-push}
use Rattle.svid_wire.specs.BatchText.{batch_kind, moment_and_count_text, head_text}
use Rattle.svid_wire.specs.Versions.{magic_of, most_of, use_text}
use Rattle.svid_wire.specs.declared.version.Version.{Version}
use Rattle.svid_wire.specs.SummaryText.{summary_head, digest_text}
use Rattle.svid_wire.specs.Stage.{IsStage, stage_text, field_len}
use Rattle.svid_wire.specs.declared.stage.Stage.{Stage}
use Rattle.svid_wire.specs.declared.stage.Stage.TheVariants.{Magic, Kind, MomentAndCount, Uses, Moment, Digests}
use Rattle.svid_wire.specs.WireFault.{IsUnfinished, in_magic, in_kind, in_moment_and_count, in_uses, in_moment, in_digests, IsFieldFault, IsUseFault, IsCountFault, flaw_reason}

pub last_of-read : (before : Option Use) (u : Use) (us : List Use) → last_of before (u ∷ us) ≡ slice_get (u ∷ us) (length us)
last_of-read before u [] = refl
last_of-read before u (v ∷ us) = last_of-read (Some u) v us

-- the last of some uses, read by its index
pub last_of-None : (us : List Use) → slice_get us (length us - 1) ≡ last_of None us
last_of-None [] = refl
last_of-None (u ∷ us) =
    let last : length (u ∷ us) - 1 ≡ length us = omega arith in
    ap (slice_get (u ∷ us)) last ∙ sym (last_of-read None u us)

-- the reason of a use's fault names what is wrong with it
pub IsFieldFault-use : (bytes : List ℕ) (offset : ℕ) (f : Flaw) → IsUseFault bytes offset f → IsFieldFault bytes (record { offset = offset; reason = flaw_reason f })
IsFieldFault-use bytes offset Expired h = (h, λ e. cc)
IsFieldFault-use bytes offset Future h = (h, λ e. cc)
IsFieldFault-use bytes offset Order h = (h, λ e. cc)

-- a count that is too great
pub IsCountFault-last : (v : Version) (m c : ℕ) (field : List ℕ) → moment_and_count_text m c ≡ field → m < 2 ^ 64 → c < 2 ^ 32 → most_of v < c → IsCountFault (magic_of v ++ batch_kind ∷ [] ++ field)
IsCountFault-last v m c field e mf cf many = record {
  version = v;
  moment = m;
  count = c;
  after = [];
  parts = ap (λ x. magic_of v ++ batch_kind ∷ [] ++ x) (sym e) ∙ sym (append-nil (head_text v m c));
  moment_fits = mf;
  count_fits = cf;
  many = many;
}

-- one more digest, and its text
pub AllBytes-push : (ds now : List (List ℕ)) (d : List ℕ) → now ≡ ds ++ d ∷ [] → AllByRecursion (IsBytes 32) ds → IsBytes 32 d → AllByRecursion (IsBytes 32) now
AllBytes-push ds now d grown all is = subst (AllByRecursion (IsBytes 32)) (sym grown) (AllByRecursion-push (IsBytes 32) ds d all is)

pub digests-more : (head : List ℕ) (ds now : List (List ℕ)) (d field : List ℕ) → now ≡ ds ++ d ∷ [] → d ≡ field → head ++ flat_map digest_text now ≡ head ++ flat_map digest_text ds ++ field
digests-more head ds now d field grown same =
    ap (λ x. head ++ flat_map digest_text x) grown ∙ sym (flat_map_more digest_text head ds d) ∙ ap (λ x. head ++ flat_map digest_text ds ++ x) same

-- a stage whose next field is not whole
pub IsUnfinished-stage : (stage : Stage) (rest bytes : List ℕ) → IsStage stage → bytes ≡ stage_text stage ++ rest → length rest < field_len stage → IsUnfinished bytes
IsUnfinished-stage Magic rest bytes good parts short = in_magic (subst (λ (x : List ℕ). length x < 4) (sym parts) short)
IsUnfinished-stage (Kind v) rest bytes good parts short = in_kind v (parts ∙ ap (λ x. magic_of v ++ x) (nil_from_length rest (omega arith)) ∙ append-nil (magic_of v))
IsUnfinished-stage (MomentAndCount v) rest bytes good parts short = in_moment_and_count v rest (parts ∙ append_assoc (magic_of v) (batch_kind ∷ []) rest) short
IsUnfinished-stage (Uses v m c us) rest bytes good parts short = in_uses v m c us.items rest good (parts ∙ append_assoc (head_text v m c) (flat_map (use_text v) us.items) rest) short
IsUnfinished-stage Moment rest bytes good parts short = in_moment rest parts short
IsUnfinished-stage (Digests m ds) rest bytes good parts short = in_digests m ds.items rest good (parts ∙ append_assoc (summary_head m) (flat_map digest_text ds.items) rest) short
