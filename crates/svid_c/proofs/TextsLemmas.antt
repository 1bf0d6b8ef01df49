-- The texts of the code are those of the statuses.
use Rattle.std.proofs.Common.{◌≡◌, ◌∙◌, ℕ, List, [], ◌∷◌, ◌++◌, Bool, true, false, map, refl, sym, ap, ◌==◌, if◌then◌else◌}
use Rattle.svid_c.specs.Statuses.{Texts}
use Rattle.svid_c.specs.Texts.{nothing, row_in, seen, seen_row, shown, shown_row}
use Rattle.svid_c.specs.declared.words.Words.{Words}

module _ {X Y : Type 0} (show : X → Y) where
  shown_if : (b : Bool) (x other : X) (y : Y) → show other ≡ y → show (if b then x else other) ≡ (if b then show x else y)
  shown_if true x other y is = refl
  shown_if false x other y is = is

  -- what stands in a table, shown, is what stands in the table that is shown
  row_shown : (number : ℕ) (none : X) (rows : List (ℕ × X)) → show (row_in number none rows) ≡ row_in number (show none) (map (λ (r : ℕ × X). (r.0, show r.1)) rows)
  unfolding row_in
  row_shown number none [] = refl
  row_shown number none (r ∷ rows) =
      shown_if (r.0 == number) r.1 (row_in number none rows) (row_in number (show none) (map (λ (s : ℕ × X). (s.0, show s.1)) rows)) (row_shown number none rows)

-- what stands in two tables is what stands in the first, or else in the second
row_in_both : {X : Type 0} (number : ℕ) (none : X) (first second : List (ℕ × X)) → row_in number none (first ++ second) ≡ row_in number (row_in number none second) first
unfolding row_in
row_in_both number none [] second = refl
row_in_both number none (r ∷ first) second = ap (λ x. if r.0 == number then r.1 else x) (row_in_both number none first second)

-- the last table
pub last : (number : ℕ) (table : List (ℕ × Words)) (none words : Words) (ours : List (ℕ × Texts)) → words ≡ row_in number none table
    → map seen_row table ≡ map shown_row ours → seen none ≡ shown nothing → seen words ≡ shown (row_in number nothing ours)
last number table none words ours is same same_none =
    ap seen is
    ∙ row_shown seen number none table
    ∙ ap (row_in number (seen none)) same
    ∙ ap (λ s. row_in number s (map shown_row ours)) same_none
    ∙ sym (row_shown shown number nothing ours)

-- a table before others
pub one_more : (number : ℕ) (table : List (ℕ × Words)) (other words : Words) (ours others : List (ℕ × Texts)) → words ≡ row_in number other table
    → map seen_row table ≡ map shown_row ours → seen other ≡ shown (row_in number nothing others) → seen words ≡ shown (row_in number nothing (ours ++ others))
one_more number table other words ours others is same same_other =
    ap seen is
    ∙ row_shown seen number other table
    ∙ ap (row_in number (seen other)) same
    ∙ ap (λ s. row_in number s (map shown_row ours)) same_other
    ∙ sym (row_shown shown number (row_in number nothing others) ours)
    ∙ ap shown (sym (row_in_both number nothing ours others))
