-- Entries that are put one after the other.
use Rattle.std.proofs.Common.{◌≡◌, List, [], ◌∷◌, ◌++◌, ℕ, zero, suc, ◌+◌, ◌<◌, ◌≤◌, arith, ap, drop, get_or, length, map, refl, slice_set, take, ◌∙◌}
use Rattle.svid_replay.specs.declared.token_use.Use.{Use}
use Rattle.svid_c.specs.Entries.{entry_seen}
use Rattle.svid_c.specs.declared.entries.SvidEntry.{SvidEntry}

put_next : (uses : List Use) (room : List SvidEntry) (i : ℕ) (d : Use) → i < length uses → length uses ≤ length room
    → slice_set (map entry_seen (take i uses) ++ drop i room) i (entry_seen (get_or uses i d)) ≡ map entry_seen (take (suc i) uses) ++ drop (suc i) room
put_next [] room i d lt fits = absurd (omega arith)
put_next (u ∷ us) [] i d lt fits = absurd (omega arith)
put_next (u ∷ us) (r ∷ rs) zero d lt fits = refl
put_next (u ∷ us) (r ∷ rs) (suc i) d lt fits = ap (λ (xs : List SvidEntry). entry_seen u ∷ xs) (put_next us rs i d (omega arith) (omega arith))

up : (i : ℕ) → suc i ≡ i + 1
up i = omega arith

pub put_more : (uses : List Use) (room written : List SvidEntry) (i : ℕ) (d : Use) (x : SvidEntry) → i < length uses → length uses ≤ length room
    → written ≡ map entry_seen (take i uses) ++ drop i room → x ≡ entry_seen (get_or uses i d)
    → slice_set written i x ≡ map entry_seen (take (i + 1) uses) ++ drop (i + 1) room
put_more uses room written i d x lt fits front is =
    ap (slice_set written i) is ∙ ap (λ (xs : List SvidEntry). slice_set xs i (entry_seen (get_or uses i d))) front
    ∙ put_next uses room i d lt fits ∙ ap (λ n. map entry_seen (take n uses) ++ drop n room) (up i)
