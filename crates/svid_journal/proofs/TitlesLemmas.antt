-- Two different files have different titles.
use Rattle.std.proofs.Common.{◌≡◌, ◌≢◌, ℕ, ◌<◌, ◌^◌, List, ◌∷◌, length, refl, sym, ◌∙◌, ap, arith}
use Rattle.std.specs.Prelude.{codes}
use Rattle.std.specs.Int.{to_be_bytes, w64}
use Rattle.svid_journal.specs.declared.title.File.{File}
use Rattle.svid_journal.specs.declared.title.File.TheVariants.{Journal, Snapshot}
use Rattle.svid_journal.specs.Titles.{kind_of, number_of, bytes_of, TitlesDiffer}
use Rattle.svid_journal.proofs.Lists.{same_parts}
use Rattle.svid_journal.proofs.FramesLemmas.{same_number}

kind_long : (file : File) → length (kind_of file) ≡ 7
kind_long (Journal n) = refl
kind_long Snapshot = refl

fifth : List ℕ → ℕ
fifth (a ∷ b ∷ c ∷ d ∷ e ∷ more) = e
fifth other = 0

kinds_differ : codes "svidjnl" ≢ codes "svidsnp"
unfolding fifth
kinds_differ e = omega (arith, ap fifth e)

same_file : (one other : File) → number_of one < 2 ^ 64 → number_of other < 2 ^ 64 → kind_of one ≡ kind_of other → to_be_bytes w64 (number_of one) ≡ to_be_bytes w64 (number_of other) → one ≡ other
same_file (Journal m) (Journal n) low lower kinds numbers = ap Journal (same_number m n low lower numbers)
same_file (Journal m) Snapshot low lower kinds numbers = absurd (kinds_differ kinds)
same_file Snapshot (Journal n) low lower kinds numbers = absurd (kinds_differ (sym kinds))
same_file Snapshot Snapshot low lower kinds numbers = refl

pub titles_differ : TitlesDiffer
unfolding bytes_of
titles_differ one other low lower e =
    let kinds = same_parts (kind_of one.file) (kind_of other.file) _ _ (kind_long one.file ∙ sym (kind_long other.file)) e in
    let numbers = same_parts (to_be_bytes w64 (number_of one.file)) (to_be_bytes w64 (number_of other.file)) one.folder other.folder refl kinds.1 in
    let file = same_file one.file other.file low.0 lower.0 kinds.0 numbers.0 in
    λ i. record { file = file i; folder = numbers.1 i }
