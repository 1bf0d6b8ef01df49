-- Rows of bytes that are the same, and places of lists.
use Rattle.std.proofs.Common.{◌≡◌, ◌⊎◌, inl, inr, ℕ, zero, suc, ◌<◌, true, false, List, [], ◌∷◌, ◌++◌, length, refl, ap, subst, arith}
use Rattle.std.specs.Prelude.{Some, slice_get}
use Rattle.std.proofs.lemmas.Bool.{false_from_ne_true, false≢true}
use Rattle.std.proofs.lemmas.Cmp.{nat_list_cmp_total, tied_itself}
use Rattle.std.proofs.lemmas.Map.Lookups.{exact_bytes}
use Rattle.std.proofs.lemmas.Option.{none-some, same_Some}
use Rattle.std.specs.Cmp.Lexicographic.{slice_cmp}
use Rattle.std.specs.Ordering.{is_eq, nat_cmp}
use Rattle.std.specs.declared.cmp.Ordering.{Ordering}
use Rattle.std.specs.declared.cmp.Ordering.TheVariants.{Less, Equal, Greater}
use Rattle.svid_claims.specs.Owners.{same}

equal : (o : Ordering) → is_eq o ≡ true → o ≡ Equal
equal Less e = absurd (false≢true e)
equal Equal e = refl
equal Greater e = absurd (false≢true e)

pub same_is : (a b : List ℕ) → same a b ≡ true → a ≡ b
same_is a b e = exact_bytes a b (equal (slice_cmp nat_cmp a b) e)

pub is_same : (a b : List ℕ) → a ≡ b → same a b ≡ true
is_same a b e = subst (λ k. same a k ≡ true) e (ap is_eq (tied_itself nat_list_cmp_total a))

pub not_same : (a b : List ℕ) → (a ≡ b → ⊥) → same a b ≡ false
not_same a b ne = false_from_ne_true (same a b) (λ e. ne (same_is a b e))

-- a list that grows at its end
pub later_index : {A : Type 0} (xs : List A) (y : A) (k : ℕ) (x : A) → slice_get xs k ≡ Some x → slice_get (xs ++ y ∷ []) k ≡ Some x
later_index [] y k x e = absurd (none-some x e)
later_index (z ∷ xs) y zero x e = e
later_index (z ∷ xs) y (suc k) x e = later_index xs y k x e

pub last_index : {A : Type 0} (xs : List A) (y : A) → slice_get (xs ++ y ∷ []) (length xs) ≡ Some y
last_index [] y = refl
last_index (z ∷ xs) y = last_index xs y

-- what stands in it stood there already, or is its end
pub index_cases : {A : Type 0} (xs : List A) (y : A) (k : ℕ) (x : A) → slice_get (xs ++ y ∷ []) k ≡ Some x → ((slice_get xs k ≡ Some x) × (k < length xs)) ⊎ ((y ≡ x) × (k ≡ length xs))
index_cases [] y zero x e = inr (same_Some y x e, refl)
index_cases [] y (suc k) x e = absurd (none-some x e)
index_cases (z ∷ xs) y zero x e = inl (e, omega arith)
index_cases (z ∷ xs) y (suc k) x e = elim (index_cases xs y k x e) [
  | inl old ↦ inl (old.0, let lt = old.1 in omega arith)
  | inr new ↦ inr (new.0, let is = new.1 in omega arith)
]
