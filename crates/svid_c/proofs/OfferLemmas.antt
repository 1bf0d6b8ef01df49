-- The rows of the first candidates.
use Rattle.std.proofs.Common.{◌≡◌, ◌≢◌, ◌-◌, zero, suc, ℕ, List, ◌∷◌, ◌++◌, length, take, refl, ap, sym, ◌∙◌, arith, append_assoc}
use Rattle.std.specs.Prelude.{nat_lt}
use Rattle.std.proofs.lemmas.Bool.Decides.{nat_tests}
use Rattle.std.specs.List.{flat_map, slice_get}

-- the first ones of a list are its first, and then of the others one less
take_one : {X : Type 0} (n : ℕ) (x : X) (xs : List X) → n ≢ 0 → take n (x ∷ xs) ≡ x ∷ take (n - 1) xs
take_one zero x xs some = absurd (some refl)
take_one (suc n) x xs some =
    let less : n ≡ suc n - 1 = omega arith in
    ap (λ m. x ∷ take m xs) less

-- a list has more than so many where the others are more than one less
lt_one : {X : Type 0} (n : ℕ) (x : X) (xs : List X) → n ≢ 0 → nat_lt n (length (x ∷ xs)) ≡ nat_lt (n - 1) (length xs)
lt_one n x xs some = grind (arith, nat_tests, some)

-- one more row of those that are due, which leaves so many
pub one_row : {X : Type 0} (row : X → List ℕ) (due : List ℕ) (left rest : List X) (x : X) (n : ℕ) (old new : List ℕ) → n ≢ 0 → left ≡ x ∷ rest
    → due ≡ old ++ flat_map row (take n left) → new ≡ old ++ row x → due ≡ new ++ flat_map row (take (n - 1) rest)
one_row row due left rest x n old new some begins rows added =
    rows ∙ ap (λ l. old ++ flat_map row (take n l)) begins ∙ ap (λ l. old ++ flat_map row l) (take_one n x rest some)
    ∙ sym (append_assoc old (row x) (flat_map row (take (n - 1) rest))) ∙ ap (λ o. o ++ flat_map row (take (n - 1) rest)) (sym added)

-- and whether there are more
pub more_left : {X : Type 0} (left rest : List X) (x : X) (n : ℕ) → n ≢ 0 → left ≡ x ∷ rest → nat_lt n (length left) ≡ nat_lt (n - 1) (length rest)
more_left left rest x n some begins = ap (λ l. nat_lt n (length l)) begins ∙ lt_one n x rest some

-- what stands behind some of a list stands behind one less of the others
get_next : {X : Type 0} (n : ℕ) (x : X) (xs : List X) → n ≢ 0 → slice_get (x ∷ xs) n ≡ slice_get xs (n - 1)
get_next zero x xs some = absurd (some refl)
get_next (suc n) x xs some =
    let less : n ≡ suc n - 1 = omega arith in
    ap (slice_get xs) less

-- and so where the list is known to begin with it
pub get_one : {X : Type 0} (left rest : List X) (x : X) (n : ℕ) → n ≢ 0 → left ≡ x ∷ rest → slice_get left n ≡ slice_get rest (n - 1)
get_one left rest x n some begins = ap (λ l. slice_get l n) begins ∙ get_next n x rest some
