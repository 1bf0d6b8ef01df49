-- Indexes of a list that grows at its end, and of validators.
use Rattle.std.proofs.Common.{◌≡◌, ◌⊎◌, ℕ, zero, suc, List, [], ◌∷◌, ◌++◌, length, Some, refl, inl, inr, Option, None}
use Rattle.std.specs.Prelude.{◌==◌, slice_get}
use Rattle.std.proofs.lemmas.Bool.{cond-true, eq-eqb}
use Rattle.std.proofs.lemmas.Option.{none-some, same_Some}
use Rattle.svid_check.specs.World.{Member, World, put}
use Rattle.svid_check.specs.Setting.{Renewal, Setting, renewed}

-- what stood at a index stands there
pub later_index : {A : Type 0} (xs : List A) (y : A) (k : ℕ) (x : A) → slice_get xs k ≡ Some x → slice_get (xs ++ y ∷ []) k ≡ Some x
later_index [] y k x e = absurd (none-some x e)
later_index (z ∷ xs) y zero x e = e
later_index (z ∷ xs) y (suc k) x e = later_index xs y k x e

-- what was added stands behind the rest
pub last_index : {A : Type 0} (xs : List A) (y : A) → slice_get (xs ++ y ∷ []) (length xs) ≡ Some y
last_index [] y = refl
last_index (z ∷ xs) y = last_index xs y

-- what stands at a index stood there, or was added
pub index_cases : {A : Type 0} (xs : List A) (y : A) (k : ℕ) (x : A) → slice_get (xs ++ y ∷ []) k ≡ Some x → (slice_get xs k ≡ Some x) ⊎ (y ≡ x)
index_cases [] y zero x e = inr (same_Some y x e)
index_cases [] y (suc k) x e = absurd (none-some x e)
index_cases (z ∷ xs) y zero x e = inl e
index_cases (z ∷ xs) y (suc k) x e = index_cases xs y k x e

-- what is put at a validator's index stands there
pub put_own : (w : World) (v : ℕ) (x : Member) → (put w v x).members v ≡ x
put_own w v x = cond-true (v == v) x (w.members v) (eq-eqb v v refl)

-- a validator has one ID for good
pub renewed_validator_id : (s : Setting) (renewal : Option Renewal) → (renewed s renewal).validator_id ≡ s.validator_id
renewed_validator_id s None = refl
renewed_validator_id s (Some r) = refl
