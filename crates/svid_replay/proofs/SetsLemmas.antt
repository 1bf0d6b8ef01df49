use Rattle.std.proofs.Common.{◌≡◌, Bool, true, false, cond, ◌&&◌, ◌||◌, List, [], ◌∷◌, map, is_some, Option, None, Some, refl, sym, ◌∙◌, ap, subst, T}
use Rattle.std.specs.FinMap as finmap
use Rattle.std.specs.FinMap.Entries.{is_sorted, below_all}
use Rattle.std.specs.FinMap.{IsAntisymmetric, same_map, get-empty, get-insert, get-retain_keys, entries-from_sorted, entries_sorted, contains_key-keys}
use Rattle.std.specs.Cmp.{IsTotalOrder}
use Rattle.std.specs.List.{AllByRecursion, list_any}
use Rattle.std.specs.List.Sorted.{IsStrictlySortedBy}
use Rattle.std.specs.Ordering.{eq_by_cmp, is_lt}
use Rattle.std.specs.declared.cmp.Ordering.{Ordering}
use Rattle.std.specs.declared.cmp.Ordering.TheVariants.{Less, Equal, Greater}
use Rattle.svid_replay.specs.Sets.{Set, empty, with, keep, holds, rising, with_all, set_of, union}
use Rattle.svid_replay.proofs.TestsLemmas.{or-false}

same_unit : (a b : Option (Unit {0})) → is_some a ≡ is_some b → a ≡ b
same_unit None None e = refl
same_unit None (Some y) e = absurd (subst T (sym e) tt)
same_unit (Some x) None e = absurd (subst T e tt)
same_unit (Some x) (Some y) e = refl

less : (o : Ordering) → T (is_lt o) → o ≡ Less
less Less h = refl
less Equal h = absurd h
less Greater h = absurd h

first : (a b : Bool) → T (a && b) → T a
first true b h = tt
first false b h = absurd h

second : (a b : Bool) → T (a && b) → T b
second true b h = h
second false b h = absurd h

both : (a b : Bool) → T a → T b → T (a && b)
both true b p q = q
both false b p q = p

is_some-cond : (a : Bool) (o : Option (Unit {0})) → is_some (cond a (Some tt) o) ≡ (a || is_some o)
is_some-cond true o = refl
is_some-cond false o = refl

is_some-kept : (a : Bool) (o : Option (Unit {0})) → is_some (cond a o None) ≡ (a && is_some o)
is_some-kept true o = refl
is_some-kept false o = refl

swapped : (a b c : Bool) → (a || (b || c)) ≡ ((b || a) || c)
swapped true true c = refl
swapped true false c = refl
swapped false true c = refl
swapped false false c = refl

module _ {K : Type 0} (R : K → K → Ordering) where
  entries_of : List K → List (K × Unit {0})
  entries_of [] = []
  entries_of (k ∷ ks) = (k, tt) ∷ entries_of ks

  keys-entries_of : (ks : List K) → map (λ e. e.0) (entries_of ks) ≡ ks
  unfolding entries_of
  keys-entries_of [] = refl
  keys-entries_of (k ∷ ks) = ap (λ xs. k ∷ xs) (keys-entries_of ks)

  below_entries : (x : K) (ks : List K) → AllByRecursion (λ y. R x y ≡ Less) ks → T (below_all R x (entries_of ks))
  unfolding entries_of
  below_entries x [] h = tt
  below_entries x (k ∷ ks) h = both _ _ (subst (λ (r : Ordering). T (is_lt r)) (sym h.0) tt) (below_entries x ks h.1)

  sorted_entries : (ks : List K) → IsStrictlySortedBy R ks → T (is_sorted R (entries_of ks))
  unfolding entries_of IsStrictlySortedBy
  sorted_entries [] h = tt
  sorted_entries (k ∷ ks) h = both _ _ (below_entries k ks h.0) (sorted_entries ks h.1)

  below_keys : (x : K) (es : List (K × Unit {0})) → T (below_all R x es) → AllByRecursion (λ y. R x y ≡ Less) (map (λ e. e.0) es)
  below_keys x [] h = tt
  below_keys x (e ∷ es) h = (less _ (first _ _ h), below_keys x es (second _ _ h))

  keys_rise : (es : List (K × Unit {0})) → T (is_sorted R es) → IsStrictlySortedBy R (map (λ e. e.0) es)
  unfolding IsStrictlySortedBy
  keys_rise [] h = tt
  keys_rise (e ∷ es) h = (below_keys e.0 es (first _ _ h), keys_rise es (second _ _ h))

  -- the things of a set rise
  pub rising_rises : (s : Set R) → IsStrictlySortedBy R (rising s)
  unfolding rising
  rising_rises s = keys_rise (finmap.entries s) (entries_sorted s)

  -- a set holds what its rising list has
  pub holds-rising : (s : Set R) (q : K) → holds s q ≡ list_any (eq_by_cmp R q) (rising s)
  unfolding holds rising
  holds-rising s q = contains_key-keys s q

  pub holds-empty : (q : K) → holds (empty R) q ≡ false
  unfolding holds empty
  holds-empty q = ap is_some (get-empty R q)

module _ {K : Type 0} {R : K → K → Ordering} (o : IsTotalOrder R) (same : IsAntisymmetric R) where
  -- sets that hold the same things are the same
  pub same_set : (s t : Set R) → ((q : K) → holds s q ≡ holds t q) → s ≡ t
  unfolding holds
  same_set s t is = same_map o same s t (λ q. same_unit _ _ (is q))

  pub holds-with : (s : Set R) (k q : K) → holds (with s k) q ≡ (eq_by_cmp R q k || holds s q)
  unfolding holds with
  holds-with s k q = ap is_some (get-insert o s k tt q) ∙ is_some-cond (eq_by_cmp R q k) (finmap.get s q)

  pub holds-keep : (test : K → Bool) (s : Set R) (q : K) → holds (keep test s) q ≡ (test q && holds s q)
  unfolding holds keep
  holds-keep test s q = ap is_some (get-retain_keys s test q (λ x t. ap test (sym (same q x t)))) ∙ is_some-kept (test q) (finmap.get s q)

  -- the set whose things are those of a rising list
  set_of_rising : List K → Set R
  set_of_rising ks = finmap.from_sorted (entries_of R ks)

  rising-set_of_rising : (ks : List K) → IsStrictlySortedBy R ks → rising (set_of_rising ks) ≡ ks
  unfolding set_of_rising rising
  rising-set_of_rising ks h = ap (map (λ e. e.0)) (entries-from_sorted R (entries_of R ks) (sorted_entries R ks h)) ∙ keys-entries_of R ks

  -- two rising lists of the same things are the same
  pub same_rising : (xs ys : List K) → IsStrictlySortedBy R xs → IsStrictlySortedBy R ys → ((q : K) → list_any (eq_by_cmp R q) xs ≡ list_any (eq_by_cmp R q) ys) → xs ≡ ys
  same_rising xs ys up up' is =
      let a = rising-set_of_rising xs up in
      let b = rising-set_of_rising ys up' in
      sym a ∙ ap rising (same_set (set_of_rising xs) (set_of_rising ys) (λ q. holds-rising R (set_of_rising xs) q ∙ ap (list_any (eq_by_cmp R q)) a ∙ is q ∙ sym (holds-rising R (set_of_rising ys) q ∙ ap (list_any (eq_by_cmp R q)) b))) ∙ b

  pub holds-with_all : (s : Set R) (ks : List K) (q : K) → holds (with_all s ks) q ≡ (list_any (eq_by_cmp R q) ks || holds s q)
  holds-with_all s [] q = refl
  holds-with_all s (k ∷ ks) q =
      holds-with_all (with s k) ks q ∙ ap (λ b. list_any (eq_by_cmp R q) ks || b) (holds-with s k q)
      ∙ swapped (list_any (eq_by_cmp R q) ks) (eq_by_cmp R q k) (holds s q)

  pub holds-set_of : (ks : List K) (q : K) → holds (set_of R ks) q ≡ list_any (eq_by_cmp R q) ks
  holds-set_of ks q = holds-with_all (empty R) ks q ∙ ap (λ b. list_any (eq_by_cmp R q) ks || b) (holds-empty R q) ∙ or-false (list_any (eq_by_cmp R q) ks)

  pub holds-union : (s t : Set R) (q : K) → holds (union s t) q ≡ (holds t q || holds s q)
  holds-union s t q = holds-with_all s (rising t) q ∙ ap (λ b. b || holds s q) (sym (holds-rising R t q))
