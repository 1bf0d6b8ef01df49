-- Prefixes of keys.
use Rattle.std.proofs.Common.{◌≡◌, ◌⊎◌, ⊎_elim, inl, inr, ℕ, suc, ◌<◌, ◌+◌, ◌==◌, Bool, true, false, not, cond, ◌&&◌, ◌||◌, List, [], ◌∷◌, ◌++◌, length, get_or, refl, sym, ◌∙◌, ap, subst, arith, nat_lt, Err}
use Rattle.std.proofs.lemmas.Bool.{cases_lt, false≢true}
use Rattle.std.proofs.lemmas.Bool.Decides.{nat_tests}
use Rattle.std.proofs.lemmas.List.{length-append}
use Rattle.std.proofs.lemmas.List.Folds.{list_any-append}
use Rattle.std.proofs.lemmas.List.Sorted.{searched, sum_by-IsPermutation}
use Rattle.std.proofs.lemmas.List.Sums.{length-filter}
use Rattle.std.specs.List.{AllByRecursion, filter, list_any}
use Rattle.std.specs.List.Sorted.{IsBinarySearchResult, IsNonDecreasing, IsPermutation}
use Rattle.std.specs.Ordering.{nat_cmp}
use Rattle.svid_replay.specs.declared.token_use.Use.{Use}
use Rattle.svid_replay.specs.Prefixes.{has_prefix, is_among, IsNoted, prefix_of}
use Rattle.svid_replay.specs.Runs.{HasBits}
use Rattle.svid_replay.specs.Twice.{has_key, twice_of, used, uses_of}
use Rattle.svid_replay.proofs.ListLemmas.{any-filter, each_append, each_true, each_weaker, filter-in, filter-out, found, none_same}
use Rattle.svid_replay.proofs.TestsLemmas.{and-false, equal, or-true}
use Rattle.svid_replay.proofs.TwiceLemmas.{key_exact, same-twice_of}

-- one more use is noted where the prefixes have all that they had, and that of its key where an earlier use has the key
noted_kept : (us : List Use) (u : Use) (key_filter now prefixes new : List ℕ) → u.withdrawn ≡ false → IsNoted us key_filter prefixes → 0 < length now → ((other : List ℕ) → HasBits key_filter other → HasBits now other) → HasBits now u.key → ((key : List ℕ) → has_prefix prefixes key ≡ true → has_prefix new key ≡ true) → (list_any (has_key u.key) (used us) ≡ true → has_prefix new u.key ≡ true) → IsNoted (us ++ u ∷ []) now new
noted_kept us u key_filter now prefixes new e noted some others added kept again = record {
  some = some;
  known = subst (AllByRecursion (λ v. HasBits now v.key)) (sym more) (each_append _ (used us) (u ∷ []) (each_weaker (λ v. HasBits key_filter v.key) _ (λ v h. others v.key h) (used us) noted.known) (added, tt));
  twice = λ key many. twice key (ap (λ vs. nat_lt 1 (length (uses_of key vs))) (sym more) ∙ many);
}
  where
    more : used (us ++ u ∷ []) ≡ used us ++ u ∷ []
    more = filter-in (λ v. not v.withdrawn) us u (ap not e)

    before : (key : List ℕ) → has_key key u ≡ true → nat_lt 1 (length (uses_of key (used us ++ u ∷ []))) ≡ true → list_any (has_key key) (used us) ≡ true
    before key same many =
        let long : length (uses_of key (used us ++ u ∷ [])) ≡ length (uses_of key (used us)) + 1 = ap length (filter-in (has_key key) (used us) u same) ∙ length-append (uses_of key (used us)) (u ∷ []) in
        any-filter (has_key key) (used us) ∙ grind (arith, nat_tests, long, many)

    twice : (key : List ℕ) → nat_lt 1 (length (uses_of key (used us ++ u ∷ []))) ≡ true → has_prefix new key ≡ true
    twice key many = elim (has_key key u) as (λ b. has_key key u ≡ b → has_prefix new key ≡ true) [
      | true ↦ λ same.
          let exact : u.key ≡ key = sym (key_exact key u.key (equal _ same)) in
          subst (λ k. has_prefix new k ≡ true) exact (again (subst (λ k. list_any (has_key k) (used us) ≡ true) (sym exact) (before key same many)))
      | false ↦ λ other. kept key (noted.twice key (ap (λ vs. nat_lt 1 (length vs)) (sym (filter-out (has_key key) (used us) u other)) ∙ many))
    ] refl

pub noted_new : (us : List Use) (u : Use) (key_filter now prefixes : List ℕ) → u.withdrawn ≡ false → (HasBits key_filter u.key → ⊥) → IsNoted us key_filter prefixes → 0 < length now → ((other : List ℕ) → HasBits key_filter other → HasBits now other) → HasBits now u.key → IsNoted (us ++ u ∷ []) now prefixes
noted_new us u key_filter now prefixes e unknown noted some others added =
    noted_kept us u key_filter now prefixes prefixes e noted some others added (λ key h. h) (λ any. absurd (found (λ v. HasBits key_filter v.key) (has_key u.key) ⊥ (used us) noted.known any (λ v bits same. unknown (subst (HasBits key_filter) (sym (key_exact u.key v.key (equal _ same))) bits))))

pub noted_again : (us : List Use) (u : Use) (key_filter now prefixes new : List ℕ) → u.withdrawn ≡ false → new ≡ prefixes ++ prefix_of u.key ∷ [] → IsNoted us key_filter prefixes → 0 < length now → ((other : List ℕ) → HasBits key_filter other → HasBits now other) → HasBits now u.key → IsNoted (us ++ u ∷ []) now new
noted_again us u key_filter now prefixes new e pushed noted some others added =
    noted_kept us u key_filter now prefixes new e noted some others added (λ key h. has_new key ∙ ap (λ b. b || list_any (λ m. m == prefix_of key) (prefix_of u.key ∷ [])) h) (λ _. has_new u.key ∙ itself)
  where
    has_new : (key : List ℕ) → has_prefix new key ≡ (has_prefix prefixes key || list_any (λ m. m == prefix_of key) (prefix_of u.key ∷ []))
    has_new key = ap (λ ns. has_prefix ns key) pushed ∙ list_any-append (λ m. m == prefix_of key) prefixes (prefix_of u.key ∷ [])

    itself : (has_prefix prefixes u.key || list_any (λ m. m == prefix_of u.key) (prefix_of u.key ∷ [])) ≡ true
    itself =
        let one : list_any (λ m. m == prefix_of u.key) (prefix_of u.key ∷ []) ≡ true = grind (arith, nat_tests) in
        ap (λ b. has_prefix prefixes u.key || b) one ∙ or-true (has_prefix prefixes u.key)

-- the same prefixes in another order
pub same_numbers : (ns sorted : List ℕ) → IsPermutation ns sorted → (key : List ℕ) → has_prefix sorted key ≡ has_prefix ns key
same_numbers ns sorted same key =
    let p : ℕ → Bool = λ m. m == prefix_of key in
    any-filter p sorted ∙ ap (nat_lt 0) (length-filter p sorted ∙ sum_by-IsPermutation (λ m. cond (p m) 1 0) ns sorted same ∙ sym (length-filter p ns)) ∙ sym (any-filter p ns)

-- a search in prefixes that rise
none_is : (x : ℕ) (xs : List ℕ) → ((k : ℕ) → k < length xs → (get_or xs k 0 == x) ≡ false) → list_any (λ m. m == x) xs ≡ false
none_is x [] h = refl
none_is x (y ∷ ys) h = let first : (y == x) ≡ false = h 0 (omega arith) in rw first (none_is x ys (λ k within. h (suc k) (omega (arith, within))))

pub absent : (xs : List ℕ) (x i : ℕ) → IsBinarySearchResult (λ y. nat_cmp y x) xs (Err i) → IsNonDecreasing xs → list_any (λ m. m == x) xs ≡ false
absent xs x i h up =
    let parts = searched xs x (Err i) h (λ a b le within. up a b 0 le within) in
    none_is x xs (λ k within. ⊎_elim (λ below. let less = parts.1 k below in grind (arith, nat_tests, less)) (λ above. let greater = parts.2 k above within in grind (arith, nat_tests, greater)) (cases_lt k i))

-- the uses whose keys have one of the prefixes
filter_cond : {X : Type 0} (p : X → Bool) (x : X) (b : Bool) (ys : List X) → filter p (cond b (x ∷ ys) ys) ≡ cond (b && p x) (x ∷ filter p ys) (filter p ys)
filter_cond p x true ys = refl
filter_cond p x false ys = refl

both_when : (a b c : Bool) → (c ≡ true → a ≡ b) → (a && c) ≡ (b && c)
both_when a b true h = ap (λ t. t && true) (h refl)
both_when a b false h = and-false a ∙ sym (and-false b)

-- two filters that agree where a third passes give the same after it
filter_within : {X : Type 0} (p q r : X → Bool) → ((x : X) → p x ≡ true → q x ≡ r x) → (xs : List X) → filter p (filter q xs) ≡ filter p (filter r xs)
filter_within p q r h [] = refl
filter_within p q r h (x ∷ xs) =
    filter_cond p x (q x) (filter q xs) ∙ (λ i. cond (both_when (q x) (r x) (p x) (h x) i) (x ∷ filter_within p q r h xs i) (filter_within p q r h xs i)) ∙ sym (filter_cond p x (r x) (filter r xs))

among : (ns : List ℕ) (key : List ℕ) (b : Bool) (u : Use) → has_prefix ns key ≡ b → has_key key u ≡ true → is_among ns u ≡ (not u.withdrawn && b)
among ns key b u e same = ap (λ k. not u.withdrawn && has_prefix ns k) (sym (key_exact key u.key (equal _ same))) ∙ ap (λ t. not u.withdrawn && t) e

and_true : (a : Bool) → (a && true) ≡ a
and_true true = refl
and_true false = refl

uses_kept : (ns : List ℕ) (key : List ℕ) (us : List Use) → has_prefix ns key ≡ true → uses_of key (filter (is_among ns) us) ≡ uses_of key (used us)
uses_kept ns key us e = filter_within (has_key key) (is_among ns) (λ u. not u.withdrawn) (λ u same. among ns key true u e same ∙ and_true (not u.withdrawn)) us

uses_left : (ns : List ℕ) (key : List ℕ) (us : List Use) → has_prefix ns key ≡ false → uses_of key (filter (is_among ns) us) ≡ []
uses_left ns key us e =
    filter_within (has_key key) (is_among ns) (λ u. false) (λ u same. among ns key false u e same ∙ and-false (not u.withdrawn)) us ∙ ap (filter (has_key key)) (none_same (λ u. false) us (each_true (λ u. false ≡ false) (λ u. refl) us))

-- where the prefixes have that of each key that two uses have, no use of such a key is left out
pub keeps_twice : (us : List Use) (ns : List ℕ) → ((key : List ℕ) → nat_lt 1 (length (uses_of key (used us))) ≡ true → has_prefix ns key ≡ true) → twice_of (filter (is_among ns) us) ≡ twice_of (used us)
keeps_twice us ns all = same-twice_of (filter (is_among ns) us) (used us) (λ key.
    elim (has_prefix ns key) as (λ b. has_prefix ns key ≡ b → (uses_of key (filter (is_among ns) us) ≡ uses_of key (used us)) ⊎ ((nat_lt 1 (length (uses_of key (filter (is_among ns) us))) ≡ false) × (nat_lt 1 (length (uses_of key (used us))) ≡ false))) [
      | true ↦ λ e. inl (uses_kept ns key us e)
      | false ↦ λ e. inr (ap (λ xs. nat_lt 1 (length xs)) (uses_left ns key us e), few key e)
    ] refl)
  where
    few : (key : List ℕ) → has_prefix ns key ≡ false → nat_lt 1 (length (uses_of key (used us))) ≡ false
    few key e = elim (nat_lt 1 (length (uses_of key (used us)))) as (λ b. nat_lt 1 (length (uses_of key (used us))) ≡ b → b ≡ false) [
      | true ↦ λ many. absurd (false≢true (sym e ∙ all key many))
      | false ↦ λ _. refl
    ] refl

-- the uses that a report takes have what it lists
pub reported : (us kept : List Use) (prefixes ns : List ℕ) → ((key : List ℕ) → nat_lt 1 (length (uses_of key (used us))) ≡ true → has_prefix prefixes key ≡ true) → ((key : List ℕ) → has_prefix ns key ≡ has_prefix prefixes key) → kept ≡ filter (is_among ns) us → twice_of kept ≡ twice_of (used us)
reported us kept prefixes ns all same e = ap twice_of e ∙ keeps_twice us ns (λ key many. same key ∙ all key many)
