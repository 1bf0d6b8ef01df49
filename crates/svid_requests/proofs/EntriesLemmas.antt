-- Entries and keys in order: what is found after a change.
use Rattle.std.proofs.Common.{◌≡◌, Bool, true, false, cond, ◌||◌, List, [], ◌∷◌, refl, sym, ap, ◌∙◌, subst, Option, Some, None, is_some}
use Rattle.std.specs.List.{AllByRecursion, list_any}
use Rattle.std.specs.List.Sorted.{IsStrictlySortedBy}
use Rattle.std.specs.Map.{keys_of, lookup, remove_entry, set_value}
use Rattle.std.specs.Set.{remove_key}
use Rattle.std.specs.BTreeMap.{insert_entry, is_at}
use Rattle.std.specs.BTreeSet.{insert_key}
use Rattle.std.specs.Cmp.{IsTotalOrder}
use Rattle.std.specs.Ordering.{is_eq, match_ordering}
use Rattle.std.specs.declared.cmp.Ordering.{Ordering}
use Rattle.std.specs.declared.cmp.Ordering.TheVariants.{Less, Equal, Greater}
use Rattle.std.specs.Cmp.{IsEquivalence}
use Rattle.std.specs.Option.{IsSome}
use Rattle.std.proofs.lemmas.Bool.{false≢true}
use Rattle.std.proofs.lemmas.Map.{lookup-none, lookup-remove_entry, lookup-set_value}
use Rattle.std.proofs.lemmas.Map.Entries.{none_past_head}
use Rattle.std.proofs.lemmas.Map.Keys.{IsDistinct-from_sorted, sorted_tail}
use Rattle.std.proofs.lemmas.Cmp.{alike_right, eq_by_cmp_equiv, tied_itself}

pub is_equal : (a : Ordering) → is_eq a ≡ true → a ≡ Equal
is_equal Less e = absurd (false≢true e)
is_equal Equal e = refl
is_equal Greater e = absurd (false≢true e)

keys_inserted : {K X : Type 0} (R : K → K → Ordering) (es : List (K × X)) (k : K) (v : X) → keys_of (insert_entry R es k v) ≡ insert_key R (keys_of es) k
keys_inserted R [] k v = refl
keys_inserted R (e ∷ es) k v =
    elim (R k e.0) as (λ o. keys_of (match_ordering o ((k, v) ∷ e ∷ es) ((e.0, v) ∷ es) (e ∷ insert_entry R es k v)) ≡ match_ordering o (k ∷ e.0 ∷ keys_of es) (e.0 ∷ keys_of es) (e.0 ∷ insert_key R (keys_of es) k)) [
      | Less ↦ refl
      | Equal ↦ refl
      | Greater ↦ ap (λ ks. e.0 ∷ ks) (keys_inserted R es k v)
    ]

keys_removed : {K X : Type 0} (test : K → Bool) (es : List (K × X)) → keys_of (remove_entry test es) ≡ remove_key test (keys_of es)
keys_removed test [] = refl
keys_removed test (e ∷ es) =
    elim (test e.0) as (λ b. keys_of (cond b es (e ∷ remove_entry test es)) ≡ cond b (keys_of es) (e.0 ∷ remove_key test (keys_of es))) [
      | true ↦ refl
      | false ↦ ap (λ ks. e.0 ∷ ks) (keys_removed test es)
    ]

all_removed : {K : Type 0} (P : K → Type 0) (test : K → Bool) (ks : List K) → AllByRecursion P ks → AllByRecursion P (remove_key test ks)
all_removed P test [] all = tt
all_removed P test (x ∷ ks) all =
    elim (test x) as (λ b. AllByRecursion P (cond b ks (x ∷ remove_key test ks))) [
      | true ↦ all.1
      | false ↦ (all.0, all_removed P test ks all.1)
    ]

all_inserted : {K : Type 0} (P : K → Type 0) (R : K → K → Ordering) (ks : List K) (k : K) → P k → AllByRecursion P ks → AllByRecursion P (insert_key R ks k)
all_inserted P R [] k holds all = (holds, tt)
all_inserted P R (x ∷ ks) k holds all =
    elim (R k x) as (λ o. AllByRecursion P (match_ordering o (k ∷ x ∷ ks) (x ∷ ks) (x ∷ insert_key R ks k))) [
      | Less ↦ (holds, all)
      | Equal ↦ all
      | Greater ↦ (all.0, all_inserted P R ks k holds all.1)
    ]

pub sorted_removed : {K : Type 0} (R : K → K → Ordering) (test : K → Bool) (ks : List K) → IsStrictlySortedBy R ks → IsStrictlySortedBy R (remove_key test ks)
unfolding IsStrictlySortedBy
sorted_removed R test [] up = tt
sorted_removed R test (x ∷ ks) up =
    elim (test x) as (λ b. IsStrictlySortedBy R (cond b ks (x ∷ remove_key test ks))) [
      | true ↦ up.1
      | false ↦ (all_removed (λ y. R x y ≡ Less) test ks up.0, sorted_removed R test ks up.1)
    ]

pub sorted_entries_removed : {K X : Type 0} (R : K → K → Ordering) (test : K → Bool) (es : List (K × X)) → IsStrictlySortedBy R (keys_of es) → IsStrictlySortedBy R (keys_of (remove_entry test es))
sorted_entries_removed R test es up = subst (IsStrictlySortedBy R) (sym (keys_removed test es)) (sorted_removed R test (keys_of es) up)

-- a set as a map to nothing
abbrev paired : {K : Type 0} → List K → List (K × Unit {0})
paired [] = []
paired (k ∷ ks) = (k, tt) ∷ paired ks

keys_paired : {K : Type 0} (ks : List K) → keys_of (paired ks) ≡ ks
keys_paired [] = refl
keys_paired (k ∷ ks) = ap (λ xs. k ∷ xs) (keys_paired ks)

any_paired : {K : Type 0} (test : K → Bool) (ks : List K) → list_any test ks ≡ is_some (lookup test (paired ks))
any_paired test [] = refl
any_paired test (k ∷ ks) = ap (λ b. test k || b) (any_paired test ks) ∙ or_some (test k) (lookup test (paired ks))
  where
    or_some : (b : Bool) (x : Option (Unit {0})) → (b || is_some x) ≡ is_some (cond b (Some tt) x)
    or_some true x = refl
    or_some false x = refl

paired_removed : {K : Type 0} (test : K → Bool) (ks : List K) → paired (remove_key test ks) ≡ remove_entry test (paired ks)
paired_removed test [] = refl
paired_removed test (k ∷ ks) =
    elim (test k) as (λ b. paired (cond b ks (k ∷ remove_key test ks)) ≡ cond b (paired ks) ((k, tt) ∷ remove_entry test (paired ks))) [
      | true ↦ refl
      | false ↦ ap (λ es. (k, tt) ∷ es) (paired_removed test ks)
    ]

paired_inserted : {K : Type 0} (R : K → K → Ordering) (ks : List K) (k : K) → paired (insert_key R ks k) ≡ insert_entry R (paired ks) k tt
paired_inserted R [] k = refl
paired_inserted R (x ∷ ks) k =
    elim (R k x) as (λ r. paired (match_ordering r (k ∷ x ∷ ks) (x ∷ ks) (x ∷ insert_key R ks k)) ≡ match_ordering r ((k, tt) ∷ (x, tt) ∷ paired ks) ((x, tt) ∷ paired ks) ((x, tt) ∷ insert_entry R (paired ks) k tt)) [
      | Less ↦ refl
      | Equal ↦ refl
      | Greater ↦ ap (λ es. (x, tt) ∷ es) (paired_inserted R ks k)
    ]

module _ {K : Type 0} {R : K → K → Ordering} (o : IsTotalOrder R) where
  below_more : (k x : K) (ks : List K) → R k x ≡ Less → AllByRecursion (λ y. R x y ≡ Less) ks → AllByRecursion (λ y. R k y ≡ Less) ks
  below_more k x [] less all = tt
  below_more k x (y ∷ ks) less all = (IsTotalOrder.trans o k x y less all.0, below_more k x ks less all.1)

  back : (k x : K) → R k x ≡ Greater → R x k ≡ Less
  back k x more = let flip = IsTotalOrder.antisymm o x k in rw (flip, more) refl

  pub sorted_inserted : (ks : List K) (k : K) → IsStrictlySortedBy R ks → IsStrictlySortedBy R (insert_key R ks k)
  unfolding IsStrictlySortedBy
  sorted_inserted [] k up = (tt, tt)
  sorted_inserted (x ∷ ks) k up =
      elim (R k x) as (λ r. R k x ≡ r → IsStrictlySortedBy R (match_ordering r (k ∷ x ∷ ks) (x ∷ ks) (x ∷ insert_key R ks k))) [
        | Less ↦ λ less. ((less, below_more k x ks less up.0), up)
        | Equal ↦ λ same. up
        | Greater ↦ λ more. (all_inserted (λ y. R x y ≡ Less) R ks k (back k x more) up.0, sorted_inserted ks k up.1)
      ] refl

  pub sorted_entries_inserted : {X : Type 0} (es : List (K × X)) (k : K) (v : X) → IsStrictlySortedBy R (keys_of es) → IsStrictlySortedBy R (keys_of (insert_entry R es k v))
  sorted_entries_inserted es k v up = subst (IsStrictlySortedBy R) (sym (keys_inserted R es k v)) (sorted_inserted (keys_of es) k up)

  -- an order that tells q from k tells q from what is like k
  like : (k x q : K) → R k x ≡ Equal → is_eq (R q x) ≡ is_eq (R q k)
  like k x q same = ap is_eq (sym (alike_right o k x q same))

  differ : (k x q : K) → R k x ≡ Greater → R q x ≡ Equal → R q k ≡ Equal → ⊥
  differ k x q more at here = let same = IsTotalOrder.congr o q k x here in absurd cc

  -- what is found where k was entered
  pub lookup_inserted : {X : Type 0} (es : List (K × X)) (k q : K) (v : X) → lookup (is_at (R q)) (insert_entry R es k v) ≡ cond (is_eq (R q k)) (Some v) (lookup (is_at (R q)) es)
  lookup_inserted [] k q v = refl
  lookup_inserted {X} (e ∷ es) k q v =
      elim (R k e.0) as (λ r. R k e.0 ≡ r → lookup (is_at (R q)) (match_ordering r ((k, v) ∷ e ∷ es) ((e.0, v) ∷ es) (e ∷ insert_entry R es k v)) ≡ cond (is_eq (R q k)) (Some v) (cond (is_eq (R q e.0)) (Some e.1) (lookup (is_at (R q)) es))) [
        | Less ↦ λ less. refl
        | Equal ↦ λ same. merged (is_eq (R q e.0)) (is_eq (R q k)) (like k e.0 q same) (Some v) (Some e.1) (lookup (is_at (R q)) es)
        | Greater ↦ λ more. ap (cond (is_eq (R q e.0)) (Some e.1)) (lookup_inserted es k q v) ∙ apart (is_eq (R q e.0)) (is_eq (R q k)) (Some e.1) (Some v) (lookup (is_at (R q)) es) (λ at here. differ k e.0 q more (is_equal _ at) (is_equal _ here))
      ] refl
    where
      merged : {X : Type 0} (a b : Bool) → a ≡ b → (x y z : Option X) → cond a x z ≡ cond b x (cond a y z)
      merged true true e x y z = refl
      merged true false e x y z = absurd cc
      merged false true e x y z = absurd cc
      merged false false e x y z = refl

      apart : {X : Type 0} (a b : Bool) (x y z : Option X) → (a ≡ true → b ≡ true → ⊥) → cond a x (cond b y z) ≡ cond b y (cond a x z)
      apart true true x y z never = absurd (never refl refl)
      apart true false x y z never = refl
      apart false true x y z never = refl
      apart false false x y z never = refl

  one_key : (k x y : K) → is_eq (R k x) ≡ true → is_eq (R k y) ≡ is_eq (R x y)
  one_key k x y at = IsEquivalence.congr (eq_by_cmp_equiv o) k x y at

  pub lookup_removed : {X : Type 0} (es : List (K × X)) (k q : K) → IsStrictlySortedBy R (keys_of es) → lookup (is_at (R q)) (remove_entry (is_at (R k)) es) ≡ cond (is_eq (R k q)) None (lookup (is_at (R q)) es)
  lookup_removed es k q up = lookup-remove_entry (eq_by_cmp_equiv o) (is_at (R k)) (one_key k) q es (IsDistinct-from_sorted R (keys_of es) up)

  pub lookup_set : {X : Type 0} (es : List (K × X)) (k q : K) (v : X) → IsSome (lookup (is_at (R k)) es) → lookup (is_at (R q)) (set_value (is_at (R k)) es v) ≡ cond (is_eq (R k q)) (Some v) (lookup (is_at (R q)) es)
  lookup_set es k q v some = lookup-set_value (eq_by_cmp_equiv o) (is_at (R k)) (one_key k) q v es some

  pub any_inserted : (ks : List K) (k q : K) → list_any (is_at (R q)) (insert_key R ks k) ≡ cond (is_eq (R q k)) true (list_any (is_at (R q)) ks)
  any_inserted ks k q =
      any_paired (is_at (R q)) (insert_key R ks k) ∙ ap (λ es. is_some (lookup (is_at (R q)) es)) (paired_inserted R ks k) ∙ ap is_some (lookup_inserted (paired ks) k q tt) ∙ some_cond (is_eq (R q k)) (lookup (is_at (R q)) (paired ks)) ∙ ap (cond (is_eq (R q k)) true) (sym (any_paired (is_at (R q)) ks))
    where
      some_cond : (b : Bool) (x : Option (Unit {0})) → is_some (cond b (Some tt) x) ≡ cond b true (is_some x)
      some_cond true x = refl
      some_cond false x = refl

  pub any_removed : (ks : List K) (k q : K) → IsStrictlySortedBy R ks → list_any (is_at (R q)) (remove_key (is_at (R k)) ks) ≡ cond (is_eq (R k q)) false (list_any (is_at (R q)) ks)
  any_removed ks k q up =
      any_paired (is_at (R q)) (remove_key (is_at (R k)) ks) ∙ ap (λ es. is_some (lookup (is_at (R q)) es)) (paired_removed (is_at (R k)) ks) ∙ ap is_some (lookup_removed (paired ks) k q (subst (IsStrictlySortedBy R) (sym (keys_paired ks)) up)) ∙ none_cond (is_eq (R k q)) (lookup (is_at (R q)) (paired ks)) ∙ ap (cond (is_eq (R k q)) false) (sym (any_paired (is_at (R q)) ks))
    where
      none_cond : (b : Bool) (x : Option (Unit {0})) → is_some (cond b None x) ≡ cond b false (is_some x)
      none_cond true x = refl
      none_cond false x = refl

  -- what is before a key is none of those from it on
  pub none_before : (k x : K) (ks : List K) → R k x ≡ Less → IsStrictlySortedBy R (x ∷ ks) → list_any (is_at (R k)) (x ∷ ks) ≡ false
  unfolding IsStrictlySortedBy
  none_before k x ks less up = rw less (none_found k ks (below_more k x ks less up.0))
    where
      none_found : (k : K) (ks : List K) → AllByRecursion (λ y. R k y ≡ Less) ks → list_any (is_at (R k)) ks ≡ false
      none_found k [] all = refl
      none_found k (y ∷ ks) all = rw all.0 (none_found k ks all.1)

  -- whatever is found among those after a key is after it
  pub found_after : (x k : K) (ks : List K) → AllByRecursion (λ y. R x y ≡ Less) ks → list_any (is_at (R k)) ks ≡ true → R x k ≡ Less
  found_after x k [] all found = absurd (false≢true found)
  found_after x k (y ∷ ks) all found = by_test (is_eq (R k y)) refl found (found_after x k ks all.1)
    where
      by_test : (b : Bool) → is_eq (R k y) ≡ b → (b || list_any (is_at (R k)) ks) ≡ true → (list_any (is_at (R k)) ks ≡ true → R x k ≡ Less) → R x k ≡ Less
      by_test true same found later = alike_right o k y x (is_equal (R k y) same) ∙ all.0
      by_test false apart found later = later found

  -- what holds of all that is found holds of each
  pub each_key : (P : K → Type 0) (ks : List K) → ((k : K) → list_any (is_at (R k)) ks ≡ true → P k) → AllByRecursion P ks
  each_key P [] f = tt
  each_key P (x ∷ ks) f = (f x (rw (tied_itself o x) refl), each_key P ks (λ k found. f k (later (is_eq (R k x)) (list_any (is_at (R k)) ks) found)))
    where
      later : (a b : Bool) → b ≡ true → (a || b) ≡ true
      later true b found = refl
      later false b found = found

  pub each_entry : {X : Type 0} (P : K × X → Type 0) (es : List (K × X)) → IsStrictlySortedBy R (keys_of es) → ((k : K) (x : X) → lookup (is_at (R k)) es ≡ Some x → P (k, x)) → AllByRecursion P es
  each_entry P [] up f = tt
  each_entry {X} P (e ∷ es) up f = (f e.0 e.1 (rw (tied_itself o e.0) refl), each_entry P es (sorted_tail R e.0 (keys_of es) up) (λ k x found. f k x (later k x (is_eq (R k e.0)) refl found)))
    where
      later : (k : K) (x : X) (b : Bool) → is_eq (R k e.0) ≡ b → lookup (is_at (R k)) es ≡ Some x → cond b (Some e.1) (lookup (is_at (R k)) es) ≡ Some x
      later k x true same found =
          let none = lookup-none (is_at (R k)) es (none_past_head (eq_by_cmp_equiv o) k e es (IsDistinct-from_sorted R (keys_of (e ∷ es)) up) same) in
          absurd cc
      later k x false apart found = found
