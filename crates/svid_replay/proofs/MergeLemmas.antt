-- Two rising lists in one.
use Rattle.std.proofs.Common.{◌≡◌, ◌≤◌, ◌+◌, suc, Bool, true, false, ◌||◌, List, [], ◌∷◌, ◌++◌, length, refl, sym, ◌∙◌, ap, subst, arith}
use Rattle.std.proofs.lemmas.List.{append-nil}
use Rattle.std.specs.Cmp.{IsTotalOrder}
use Rattle.std.specs.FinMap.{IsAntisymmetric}
use Rattle.std.specs.List.{AllByRecursion, list_any}
use Rattle.std.specs.List.Sorted.{IsStrictlySortedBy}
use Rattle.std.specs.Ordering.{match_ordering, ordering_reverse}
use Rattle.std.specs.Set.{sorted_merge, merge_step}
use Rattle.std.specs.declared.cmp.Ordering.{Ordering}
use Rattle.std.specs.declared.cmp.Ordering.TheVariants.{Less, Equal, Greater}
use Rattle.svid_replay.proofs.ListLemmas.{each_weaker}
use Rattle.svid_replay.proofs.TestsLemmas.{or-false}
use Rattle.svid_replay.proofs.UsesLemmas.{to_front}

pub by_rank : {K : Type 0} (P : List K → Type 0) (r : Ordering) (xs ys zs : List K) → (r ≡ Less → P xs) → (r ≡ Equal → P ys) → (r ≡ Greater → P zs) → P (match_ordering r xs ys zs)
by_rank P Less xs ys zs a b c = a refl
by_rank P Equal xs ys zs a b c = b refl
by_rank P Greater xs ys zs a b c = c refl

pub first_alike : (t a b : Bool) → (t || (a || b)) ≡ ((t || a) || b)
first_alike true a b = refl
first_alike false a b = refl

once : (t a b : Bool) → (t || (a || b)) ≡ ((t || a) || (t || b))
once true a b = refl
once false a b = refl

module _ {K : Type 0} (R : K → K → Ordering) where
  abbrev pub merge : List K → List K → List K
  merge = sorted_merge R true

  alone : (xs : List K) → merge xs [] ≡ xs
  alone [] = refl
  alone (x ∷ xs) = refl

  -- where one list is at its end
  pub merge_first_done : (a b : List K) → a ≡ [] → merge a b ≡ a ++ b
  merge_first_done a b none = ap (λ xs. merge xs b) none ∙ sym (ap (λ xs. xs ++ b) none)

  pub merge_second_done : (a b : List K) → b ≡ [] → merge a b ≡ a ++ b
  merge_second_done a b none = ap (merge a) none ∙ alone a ∙ sym (ap (λ ys. a ++ ys) none ∙ append-nil a)

  all_at : (P : K → Type 0) (x : K) (xs : List K) (on : List K → List K) → P x → AllByRecursion P xs → ((ys : List K) → AllByRecursion P ys → AllByRecursion P (on ys)) → (ys : List K) → AllByRecursion P ys → AllByRecursion P (merge_step R true x xs on ys)
  all_at P x xs on p a h [] b = (p, a)
  all_at P x xs on p a h (y ∷ ys) b = by_rank (AllByRecursion P) (R x y) _ _ _ (λ _. (p, h (y ∷ ys) b)) (λ _. (p, h ys b.1)) (λ _. (b.0, all_at P x xs on p a h ys b.1))

  all_merged : (P : K → Type 0) (xs ys : List K) → AllByRecursion P xs → AllByRecursion P ys → AllByRecursion P (merge xs ys)
  all_merged P [] ys a b = b
  all_merged P (x ∷ xs) ys a b = all_at P x xs (merge xs) a.0 a.1 (λ zs. all_merged P xs zs a.1) ys b

  long_at : (x : K) (xs : List K) → ((ys : List K) → length (merge xs ys) ≤ length xs + length ys) → (ys : List K) → length (merge (x ∷ xs) ys) ≤ suc (length xs) + length ys
  long_at x xs h [] = omega arith
  long_at x xs h (y ∷ ys) = by_rank (λ l. length l ≤ suc (length xs) + suc (length ys)) (R x y) _ _ _
      (λ _. omega (arith, h (y ∷ ys))) (λ _. omega (arith, h ys)) (λ _. omega (arith, long_at x xs h ys))

  pub merge_length : (xs ys : List K) → length (merge xs ys) ≤ length xs + length ys
  merge_length [] ys = omega arith
  merge_length (x ∷ xs) ys = long_at x xs (merge_length xs) ys

module _ {K : Type 0} {R : K → K → Ordering} (o : IsTotalOrder R) (exact : IsAntisymmetric R) where
  pub below_all : (x y : K) (ys : List K) → R x y ≡ Less → AllByRecursion (λ z. R y z ≡ Less) ys → AllByRecursion (λ z. R x z ≡ Less) (y ∷ ys)
  below_all x y ys h a = (h, each_weaker (λ z. R y z ≡ Less) _ (λ z l. o.trans x y z h l) ys a)

  pub turned : (x y : K) → R x y ≡ Greater → R y x ≡ Less
  turned x y k = o.antisymm y x ∙ ap ordering_reverse k

  rises_at : (x : K) (xs : List K) → IsStrictlySortedBy R (x ∷ xs) → ((ys : List K) → IsStrictlySortedBy R ys → IsStrictlySortedBy R (merge R xs ys)) → (ys : List K) → IsStrictlySortedBy R ys → IsStrictlySortedBy R (merge R (x ∷ xs) ys)
  unfolding IsStrictlySortedBy
  rises_at x xs s h [] t = s
  rises_at x xs s h (y ∷ ys) t = by_rank (IsStrictlySortedBy R) (R x y) _ _ _
      (λ k. (all_merged R (λ z. R x z ≡ Less) xs (y ∷ ys) s.0 (below_all x y ys k t.0), h (y ∷ ys) t))
      (λ k. (all_merged R (λ z. R x z ≡ Less) xs ys s.0 (subst (λ w. AllByRecursion (λ z. R w z ≡ Less) ys) (sym (exact x y k)) t.0), h ys t.1))
      (λ k. (all_merged R (λ z. R y z ≡ Less) (x ∷ xs) ys (below_all y x xs (turned x y k) s.0) t.0, rises_at x xs s h ys t.1))

  pub merge_rises : (xs ys : List K) → IsStrictlySortedBy R xs → IsStrictlySortedBy R ys → IsStrictlySortedBy R (merge R xs ys)
  unfolding IsStrictlySortedBy
  merge_rises [] ys s t = t
  merge_rises (x ∷ xs) ys s t = rises_at x xs s (λ zs. merge_rises xs zs s.1) ys t

  has_at : (p : K → Bool) (x : K) (xs : List K) → ((ys : List K) → list_any p (merge R xs ys) ≡ (list_any p xs || list_any p ys)) → (ys : List K) → list_any p (merge R (x ∷ xs) ys) ≡ (list_any p (x ∷ xs) || list_any p ys)
  has_at p x xs h [] = sym (or-false (list_any p (x ∷ xs)))
  has_at p x xs h (y ∷ ys) =
      let any = list_any p in
      by_rank (λ l. any l ≡ (any (x ∷ xs) || any (y ∷ ys))) (R x y) _ _ _
      (λ k. ap (λ b. p x || b) (h (y ∷ ys)) ∙ first_alike (p x) (any xs) (any (y ∷ ys)))
      (λ k. ap (λ b. p x || b) (h ys) ∙ once (p x) (any xs) (any ys) ∙ ap (λ z. any (x ∷ xs) || (p z || any ys)) (exact x y k))
      (λ k. ap (λ b. p y || b) (has_at p x xs h ys) ∙ to_front (p y) (any (x ∷ xs)) (any ys))

  -- what passes a test is in one of the two lists
  pub merge_has : (p : K → Bool) (xs ys : List K) → list_any p (merge R xs ys) ≡ (list_any p xs || list_any p ys)
  merge_has p [] ys = refl
  merge_has p (x ∷ xs) ys = has_at p x xs (merge_has p xs) ys
