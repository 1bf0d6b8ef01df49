-- The positions of the uses of values in a log.
use Rattle.std.proofs.Common.{◌≡◌, ℕ, zero, suc, ◌+◌, ◌-◌, ◌<◌, ◌≤◌, List, [], ◌∷◌, ◌++◌, length, take, drop, get_or, refl, sym, ap, ◌∙◌, subst, arith}
use Rattle.std.specs.Prelude.{Option, Some, None, slice_get}
use Rattle.std.proofs.lemmas.Option.{none-some, same_Some}
use Rattle.svid_replay.specs.declared.token_use.Use.{Use}
use Rattle.svid_log.specs.Calls.{index_in, uses_of}
use Rattle.svid_log.proofs.GroupsLemmas.{drop_index}

none_in_front : (n : ℕ) → n ≡ 0 + n
none_in_front n = omega arith

pub joined_length : {A : Type 0} (xs ys : List A) → length (xs ++ ys) ≡ length xs + length ys
joined_length [] ys = none_in_front (length ys)
joined_length (x ∷ xs) ys = let rest = joined_length xs ys in omega arith

pub dropped_length : {A : Type 0} (n : ℕ) (xs : List A) → n ≤ length xs → n + length (drop n xs) ≡ length xs
dropped_length zero xs le = sym (none_in_front (length xs))
dropped_length (suc n) [] le = absurd (omega arith)
dropped_length (suc n) (x ∷ xs) le = let rest = dropped_length n xs (omega arith) in omega arith

pub taken_length : {A : Type 0} (n : ℕ) (xs : List A) → n ≤ length xs → length (take n xs) ≡ n
taken_length zero xs le = refl
taken_length (suc n) [] le = absurd (omega arith)
taken_length (suc n) (x ∷ xs) le = let rest = taken_length n xs (omega arith) in omega arith

pub front_index : {A : Type 0} (xs ys : List A) (k : ℕ) (c : A) → slice_get xs k ≡ Some c → slice_get (xs ++ ys) k ≡ Some c
front_index [] ys k c e = absurd (none-some c e)
front_index (x ∷ xs) ys zero c e = e
front_index (x ∷ xs) ys (suc k) c e = front_index xs ys k c e

pub back_index : {A : Type 0} (xs ys : List A) (k : ℕ) → slice_get (xs ++ ys) (length xs + k) ≡ slice_get ys k
back_index [] ys k = ap (λ i. slice_get ys i) (sym (none_in_front k))
back_index (x ∷ xs) ys k = ap (λ i. slice_get (x ∷ (xs ++ ys)) i) (up (length xs) k) ∙ back_index xs ys k
  where
    up : (i j : ℕ) → suc i + j ≡ suc (i + j)
    up i j = omega arith

pub within_list : {A : Type 0} (xs : List A) (k : ℕ) (c : A) → slice_get xs k ≡ Some c → k < length xs
within_list [] k c e = absurd (none-some c e)
within_list (x ∷ xs) zero c e = omega arith
within_list (x ∷ xs) (suc k) c e = let rest = within_list xs k c e in omega arith

-- the position of a use of a value is after those of all earlier values
pub value_index : (values : List (List Use)) (i : ℕ) (us : List Use) (k : ℕ) (c : Use) → slice_get values i ≡ Some us → slice_get us k ≡ Some c → slice_get (uses_of values) (index_in values i k) ≡ Some c
value_index [] i us k c e is = absurd (none-some us e)
value_index (v ∷ values) zero us k c e is =
    ap (λ j. slice_get (v ++ uses_of values) j) (sym (none_in_front k)) ∙ front_index v (uses_of values) k c (ap (λ xs. slice_get xs k) (same_Some v us e) ∙ is)
value_index (v ∷ values) (suc i) us k c e is =
    ap (λ j. slice_get (v ++ uses_of values) j) (ap (λ n. n + k) (joined_length v (uses_of (take i values))) ∙ apart (length v) (length (uses_of (take i values))) k)
    ∙ (back_index v (uses_of values) (index_in values i k) ∙ value_index values i us k c e is)
  where
    apart : (a b n : ℕ) → (a + b) + n ≡ a + (b + n)
    apart a b n = omega arith

-- the next value begins after the uses of this one
pub next_index : (values : List (List Use)) (i : ℕ) (us : List Use) → slice_get values i ≡ Some us → index_in values (suc i) 0 ≡ index_in values i (length us)
next_index [] i us e = absurd (none-some us e)
next_index (v ∷ values) zero us e =
    ap (λ n. n + 0) (joined_length v []) ∙ (alone (length v) ∙ ap (λ xs. 0 + length xs) (same_Some v us e))
  where
    alone : (n : ℕ) → (n + 0) + 0 ≡ 0 + n
    alone n = omega arith
next_index (v ∷ values) (suc i) us e =
    ap (λ n. n + 0) (joined_length v (uses_of (take (suc i) values)))
    ∙ (apart (length v) (length (uses_of (take (suc i) values))) ∙ (ap (λ n. length v + n) (next_index values i us e)
    ∙ (back (length v) (length (uses_of (take i values))) (length us) ∙ sym (ap (λ n. n + length us) (joined_length v (uses_of (take i values)))))))
  where
    apart : (a b : ℕ) → (a + b) + 0 ≡ a + (b + 0)
    apart a b = omega arith

    back : (a b n : ℕ) → a + (b + n) ≡ (a + b) + n
    back a b n = omega arith

-- later values begin no earlier
pub indexes_rise : (values : List (List Use)) (i j : ℕ) → i ≤ j → index_in values i 0 ≤ index_in values j 0
indexes_rise [] i j le = ap_le i j
  where
    ap_le : (a b : ℕ) → index_in [] a 0 ≤ index_in [] b 0
    ap_le zero zero = omega arith
    ap_le zero (suc b) = omega arith
    ap_le (suc a) zero = omega arith
    ap_le (suc a) (suc b) = omega arith
indexes_rise (v ∷ values) zero j le = omega arith
indexes_rise (v ∷ values) (suc i) zero le = absurd (omega arith)
indexes_rise (v ∷ values) (suc i) (suc j) le =
    let rest = indexes_rise values i j (omega arith) in
    let a = joined_length v (uses_of (take i values)) in
    let b = joined_length v (uses_of (take j values)) in
    omega arith
