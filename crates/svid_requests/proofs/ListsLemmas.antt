-- Lists: of entries, by their places, and what holds of each.
use Rattle.std.proofs.Common.{◌≡◌, ◌⊎◌, inl, inr, ℕ, ◌+◌, ◌<◌, Bool, true, false, cond, List, [], ◌∷◌, ◌++◌, length, refl, ap, arith, zero, suc, Some, None, is_some, sym}
use Rattle.std.specs.Prelude.{◌==◌, nat_lt}
use Rattle.std.specs.List.{AllByRecursion, slice_get}
use Rattle.std.proofs.lemmas.Bool.{true≢false, eq-eqb, lt-ltb, le-ltb, ne_eqb, cases_order}
use Rattle.svid_requests.specs.Promises.{one_if}
use Rattle.std.specs.Map.{lookup, set_value}

-- nothing changes where nothing is found
pub set_value_absent : {K X : Type 0} (test : K → Bool) (es : List (K × X)) (w : X) → lookup test es ≡ None → set_value test es w ≡ es
set_value_absent test [] w none = refl
set_value_absent {K} {X} test (e ∷ es) w none =
    elim (test e.0) as (λ b. cond b (Some e.1) (lookup test es) ≡ None → cond b ((e.0, w) ∷ es) (e ∷ set_value test es w) ≡ e ∷ es) [
      | true ↦ λ some. absurd (true≢false (ap is_some some))
      | false ↦ λ later. ap (λ fs. e ∷ fs) (set_value_absent test es w later)
    ] none

pub all_weaker : {X : Type 0} (P Q : X → Type 0) (xs : List X) → ((x : X) → P x → Q x) → AllByRecursion P xs → AllByRecursion Q xs
all_weaker P Q [] f all = tt
all_weaker P Q (x ∷ xs) f all = (f x all.0, all_weaker P Q xs f all.1)

pub get_push_old : {X : Type 0} (xs : List X) (x y : X) (n : ℕ) → slice_get xs n ≡ Some y → slice_get (xs ++ x ∷ []) n ≡ Some y
get_push_old [] x y n e = absurd cc
get_push_old (z ∷ xs) x y zero e = e
get_push_old (z ∷ xs) x y (suc n) e = get_push_old xs x y n e

pub get_push_new : {X : Type 0} (xs : List X) (x : X) (n : ℕ) → n ≡ length xs → slice_get (xs ++ x ∷ []) n ≡ Some x
get_push_new [] x n e = rw e refl
get_push_new (z ∷ xs) x zero e = absurd (omega arith)
get_push_new (z ∷ xs) x (suc n) e = get_push_new xs x n (omega arith)

pub get_within : {X : Type 0} (xs : List X) (x : X) (n : ℕ) → slice_get xs n ≡ Some x → n < length xs
get_within [] x n e = absurd cc
get_within (z ∷ xs) x zero e = omega arith
get_within (z ∷ xs) x (suc n) e = let below = get_within xs x n e in omega arith

pub get_push : {X : Type 0} (xs : List X) (x y : X) (n : ℕ) → slice_get (xs ++ x ∷ []) n ≡ Some y → (slice_get xs n ≡ Some y) ⊎ ((n ≡ length xs) × (x ≡ y))
get_push [] x y zero e = inr (refl, cc)
get_push [] x y (suc n) e = absurd cc
get_push (z ∷ xs) x y zero e = inl e
get_push (z ∷ xs) x y (suc n) e = further (get_push xs x y n e)
  where
    further : (slice_get xs n ≡ Some y) ⊎ ((n ≡ length xs) × (x ≡ y)) → (slice_get xs n ≡ Some y) ⊎ ((suc n ≡ suc (length xs)) × (x ≡ y))
    further (inl old) = inl old
    further (inr new) = inr (ap suc new.0, new.1)

-- a number below one more is below, or it is that one
pub below_more : (n m : ℕ) → one_if (nat_lt n (m + 1)) ≡ one_if (nat_lt n m) + one_if (m == n)
below_more n m =
    elim (cases_order n m) [
      | inl same ↦ simp (lt-ltb n (m + 1) (omega arith), le-ltb n m (omega arith), eq-eqb m n (sym same)) refl
      | inr (inl less) ↦ simp (lt-ltb n (m + 1) (omega arith), lt-ltb n m less, ne_eqb m n (λ e. omega arith)) refl
      | inr (inr more) ↦ simp (le-ltb n (m + 1) (omega arith), le-ltb n m (omega arith), ne_eqb m n (λ e. omega arith)) refl
    ]
