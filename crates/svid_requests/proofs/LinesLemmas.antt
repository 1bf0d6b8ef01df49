-- The lines: who stands in them, and who is first.
use Rattle.std.proofs.Common.{◌≡◌, ℕ, ◌≤◌, Bool, true, false, cond, ◌&&◌, ◌||◌, List, [], ◌∷◌, zero, suc, arith, refl, sym, ap, ◌∙◌, subst, Some, None}
use Rattle.std.specs.List.{AllByRecursion, filter, list_any}
use Rattle.std.specs.List.Sorted.{IsStrictlySortedBy}
use Rattle.std.specs.BTreeMap.{is_at}
use Rattle.std.specs.BTreeMap.Range.{range_contains}
use Rattle.std.specs.Ordering.{is_eq, is_le, nat_cmp, ordering_then}
use Rattle.std.specs.declared.cmp.Ordering.{Ordering}
use Rattle.std.specs.declared.cmp.Ordering.TheVariants.{Less, Equal, Greater}
use Rattle.std.specs.declared.ops.Bound.TheVariants.{Included, Unbounded}
use Rattle.std.proofs.lemmas.Cmp.{nat_list_cmp_total, ranked, tied_itself}
use Rattle.std.proofs.lemmas.Bool.{false≢true, lt-ltb}
use Rattle.std.proofs.lemmas.List.Kept.{IsStrictlySortedBy-filter}
use Rattle.std.proofs.lemmas.Map.Lookups.{exact_bytes}
use Rattle.std.proofs.lemmas.Map.Views.{any-filter_same}
use Rattle.svid_requests.specs.declared.waiter.Waiter.{Waiter}
use Rattle.svid_requests.specs.Lines.{first_of, key_cmp, number_at, waiter_cmp}
use Rattle.svid_requests.proofs.EntriesLemmas.{found_after, is_equal, none_before}
use Rattle.svid_requests.proofs.TablesLemmas.{one, one_is, one_itself, waiter_cmp_total}

-- one key or not
abbrev pub alike : List ℕ → List ℕ → Bool
alike j k = is_eq (key_cmp j k)

pub alike_is : (j k : List ℕ) → alike j k ≡ true → j ≡ k
alike_is j k is = exact_bytes j k (is_equal (key_cmp j k) is)

pub waiters_alike : (v w : Waiter) → is_eq (waiter_cmp v w) ≡ cond (alike v.key w.key) (one v.number w.number) false
waiters_alike v w = by_key (key_cmp v.key w.key)
  where
    by_key : (o : Ordering) → is_eq (ordering_then o (nat_cmp v.number w.number)) ≡ cond (is_eq o) (one v.number w.number) false
    by_key Less = refl
    by_key Equal = refl
    by_key Greater = refl

-- the request of a number stands in the line behind a key
abbrev pub stands : List ℕ → ℕ → List Waiter → Bool
stands key n ws = list_any (is_at (waiter_cmp (record { key = key; number = n }))) ws

abbrev from_key : List ℕ → Waiter → Bool
from_key key w = range_contains waiter_cmp (Included (record { key = key; number = 0 })) Unbounded w

zero_first : (n : ℕ) → is_le (nat_cmp 0 n) ≡ true
zero_first zero = refl
zero_first (suc n) = rw (lt-ltb 0 (suc n) (omega arith)) refl

-- whoever waits for a key is among those from it on
waits_from : (key : List ℕ) (n : ℕ) (w : Waiter) → is_at (waiter_cmp (record { key = key; number = n })) w ≡ true → from_key key w ≡ true
waits_from key n w is = by_key (key_cmp key w.key) is
  where
    by_key : (o : Ordering) → is_eq (ordering_then o (nat_cmp n w.number)) ≡ true → (is_le (ordering_then o (nat_cmp 0 w.number)) && true) ≡ true
    by_key Less is = refl
    by_key Equal is = rw (zero_first w.number) refl
    by_key Greater is = absurd (false≢true is)

stands_from : (key : List ℕ) (n : ℕ) (ws : List Waiter) → stands key n ws ≡ stands key n (filter (from_key key) ws)
stands_from key n ws = sym (any-filter_same (is_at (waiter_cmp (record { key = key; number = n }))) (from_key key) true (waits_from key n) ws)

filter_head : {X : Type 0} (p : X → Bool) (xs : List X) (y : X) (ys : List X) → filter p xs ≡ y ∷ ys → p y ≡ true
filter_head p [] y ys is = absurd cc
filter_head {X} p (x ∷ xs) y ys is = by_test (p x) refl is (filter_head p xs y ys)
  where
    by_test : (b : Bool) → p x ≡ b → cond b (x ∷ filter p xs) (filter p xs) ≡ y ∷ ys → (filter p xs ≡ y ∷ ys → p y ≡ true) → p y ≡ true
    by_test true test is later = let same : x ≡ y = cc in subst (λ (z : X). p z ≡ true) same test
    by_test false test is later = later is

-- the first one of a line stands in it
pub first_stands : (key : List ℕ) (w : ℕ) (ws : List Waiter) → first_of key ws ≡ Some w → stands key w ws ≡ true
first_stands key w ws is = stands_from key w ws ∙ at_head (filter (from_key key) ws) is
  where
    at_key : (v : Waiter) (vs : List Waiter) (b : Bool) → alike key v.key ≡ b → cond b (Some v.number) None ≡ Some w → (is_eq (waiter_cmp (record { key = key; number = w }) v) || stands key w vs) ≡ true
    at_key v vs true same is =
        let number : v.number ≡ w = cc in
        rw (waiters_alike (record { key = key; number = w }) v, same, number, one_itself w) refl
    at_key v vs false same is = absurd cc

    at_head : (vs : List Waiter) → number_at key vs ≡ Some w → stands key w vs ≡ true
    at_head [] is = absurd cc
    at_head (v ∷ vs) is = at_key v vs (alike key v.key) refl is

-- where there is no first one, none stands
pub none_stands : (key : List ℕ) (n : ℕ) (ws : List Waiter) → IsStrictlySortedBy waiter_cmp ws → first_of key ws ≡ None → stands key n ws ≡ false
none_stands key n ws up is = stands_from key n ws ∙ at_head (filter (from_key key) ws) refl is (IsStrictlySortedBy-filter waiter_cmp (from_key key) ws up)
  where
    before : (o : Ordering) (v : Waiter) → is_eq o ≡ false → (is_le (ordering_then o (nat_cmp 0 v.number)) && true) ≡ true → ordering_then o (nat_cmp n v.number) ≡ Less
    before Less v apart from = refl
    before Equal v apart from = absurd cc
    before Greater v apart from = absurd (false≢true from)

    at_key : (v : Waiter) (vs : List Waiter) (b : Bool) → alike key v.key ≡ b → cond b (Some v.number) None ≡ None → from_key key v ≡ true → IsStrictlySortedBy waiter_cmp (v ∷ vs) → stands key n (v ∷ vs) ≡ false
    at_key v vs true same is from up = absurd cc
    at_key v vs false apart is from up = none_before waiter_cmp_total (record { key = key; number = n }) v vs (before (key_cmp key v.key) v apart from) up

    at_head : (vs : List Waiter) → filter (from_key key) ws ≡ vs → number_at key vs ≡ None → IsStrictlySortedBy waiter_cmp vs → stands key n vs ≡ false
    at_head [] from is up = refl
    at_head (v ∷ vs) from is up = at_key v vs (alike key v.key) refl is (filter_head (from_key key) ws v vs from) up

-- the first one of a line has the least number of it
pub first_in_line : (key : List ℕ) (w m : ℕ) (ws : List Waiter) → IsStrictlySortedBy waiter_cmp ws → first_of key ws ≡ Some w → stands key m ws ≡ true → w ≤ m
unfolding IsStrictlySortedBy
first_in_line key w m ws up is found = at_head (filter (from_key key) ws) is (IsStrictlySortedBy-filter waiter_cmp (from_key key) ws up) (sym (stands_from key m ws) ∙ found)
  where
    later : (v : Waiter) → key ≡ v.key → waiter_cmp v (record { key = key; number = m }) ≡ Less → v.number ≤ m
    later v same less =
        let tied : key_cmp v.key key ≡ Equal = ap (key_cmp v.key) same ∙ tied_itself nat_list_cmp_total v.key in
        let below = ranked v.number m Less (sym (sym (ap (λ o. ordering_then o (nat_cmp v.number m)) tied) ∙ less)) in
        omega arith

    at_number : (v : Waiter) (vs : List Waiter) (c : Bool) → key ≡ v.key → one m v.number ≡ c → AllByRecursion (λ x. waiter_cmp v x ≡ Less) vs → (c || stands key m vs) ≡ true → v.number ≤ m
    at_number v vs true same number after found = let equal = one_is m v.number number in omega arith
    at_number v vs false same number after found = later v same (found_after waiter_cmp_total v (record { key = key; number = m }) vs after found)

    at_key : (v : Waiter) (vs : List Waiter) (b : Bool) → alike key v.key ≡ b → cond b (Some v.number) None ≡ Some w → AllByRecursion (λ x. waiter_cmp v x ≡ Less) vs → (is_eq (waiter_cmp (record { key = key; number = m }) v) || stands key m vs) ≡ true → w ≤ m
    at_key v vs false same is after found = absurd cc
    at_key v vs true same is after found =
        let number : v.number ≡ w = cc in
        let test = waiters_alike (record { key = key; number = m }) v ∙ ap (λ b. cond b (one m v.number) false) same in
        subst (λ x. x ≤ m) number (at_number v vs (one m v.number) (alike_is key v.key same) refl after (sym (ap (λ b. b || stands key m vs) test) ∙ found))

    at_head : (vs : List Waiter) → number_at key vs ≡ Some w → IsStrictlySortedBy waiter_cmp vs → stands key m vs ≡ true → w ≤ m
    at_head [] is up found = absurd cc
    at_head (v ∷ vs) is up found = at_key v vs (alike key v.key) refl is up.0 found
