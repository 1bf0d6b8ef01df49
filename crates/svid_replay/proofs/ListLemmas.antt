use Rattle.std.proofs.Common.{◌≡◌, ◌≢◌, ◌⊎◌, ℕ, ◌<◌, ◌≤◌, ◌+◌, zero, suc, Bool, true, false, not, cond, ◌||◌, List, [], ◌∷◌, ◌++◌, map, length, take, drop, get_or, refl, sym, ◌∙◌, ap, subst, T, inl, inr, ⊎_elim, arith, nat_lt, Contains}
use Rattle.std.proofs.lemmas.Bool.{cases_lt, false≢true}
use Rattle.std.proofs.lemmas.Bool.Decides.{nat_tests}
use Rattle.std.proofs.lemmas.List.Elements.{recursion_from_All, All-contains, All-contains_itself, filter_passes, filter-append, All-filter}
use Rattle.std.proofs.lemmas.List.{append-nil, length-take, length-drop, get_or-take, get_or-drop}
use Rattle.std.proofs.lemmas.List.Sums.{prefix_len_is}
use Rattle.std.proofs.lemmas.Map.Keys.{Less-from_sorted}
use Rattle.std.specs.List.{AllByRecursion, AllWithin, list_any, filter, prefix_len}
use Rattle.std.specs.List.Sorted.{IsStrictlySortedBy, IsPartitionedBy, IsPartitionPoint}
use Rattle.std.specs.declared.cmp.Ordering.{Ordering}
use Rattle.std.specs.declared.cmp.Ordering.TheVariants.{Less}
use Rattle.svid_replay.proofs.TestsLemmas.{or-true}

-- lists and tests
pub all_same : {X : Type 0} (p : X → Bool) (xs : List X) → AllByRecursion (λ x. p x ≡ true) xs → filter p xs ≡ xs
all_same p [] h = refl
all_same p (x ∷ xs) h = rw h.0 (ap (λ ys. x ∷ ys) (all_same p xs h.1))

pub none_same : {X : Type 0} (p : X → Bool) (xs : List X) → AllByRecursion (λ x. p x ≡ false) xs → filter p xs ≡ []
none_same p [] h = refl
none_same p (x ∷ xs) h = rw h.0 (none_same p xs h.1)

pub each_weaker : {X : Type 0} (P Q : X → Type 0) → ((x : X) → P x → Q x) → (xs : List X) → AllByRecursion P xs → AllByRecursion Q xs
each_weaker P Q f [] h = tt
each_weaker P Q f (x ∷ xs) h = (f x h.0, each_weaker P Q f xs h.1)

pub each_append : {X : Type 0} (P : X → Type 0) (xs ys : List X) → AllByRecursion P xs → AllByRecursion P ys → AllByRecursion P (xs ++ ys)
each_append P [] ys h k = k
each_append P (x ∷ xs) ys h k = (h.0, each_append P xs ys h.1 k)

-- what holds of each that passes, where one passes
pub found : {X : Type 0} (P : X → Type 0) (p : X → Bool) (G : Type 0) (xs : List X) → AllByRecursion P xs → list_any p xs ≡ true → ((x : X) → P x → p x ≡ true → G) → G
found P p G [] h any f = absurd (subst T (sym any) tt)
found P p G (x ∷ xs) h any f =
    elim (p x) as (λ b. p x ≡ b → (b || list_any p xs) ≡ true → G) [
      | true ↦ λ e _. f x h.0 e
      | false ↦ λ e rest. found P p G xs h.1 rest f
    ] refl any

pub same_map : {X Y : Type 0} (f g : X → Y) (xs : List X) → AllByRecursion (λ x. f x ≡ g x) xs → map f xs ≡ map g xs
same_map f g [] h = refl
same_map f g (x ∷ xs) h = ap (λ y. y ∷ map f xs) h.0 ∙ ap (λ ys. g x ∷ ys) (same_map f g xs h.1)

pub any_map : {X Y : Type 0} (p : Y → Bool) (f : X → Y) (xs : List X) → list_any p (map f xs) ≡ list_any (λ x. p (f x)) xs
any_map p f [] = refl
any_map p f (x ∷ xs) = ap (λ b. p (f x) || b) (any_map p f xs)

pub any_here : {X : Type 0} (p : X → Bool) (b : Bool) (x : X) (xs : List X) → AllByRecursion (λ y. p y ≡ b) (x ∷ xs) → list_any p (x ∷ xs) ≡ b
any_here p true x xs h = rw h.0
any_here p false x [] h = rw h.0
any_here p false x (y ∷ ys) h = rw h.0 (any_here p false y ys h.1)

pub rises_push : {K : Type 0} (R : K → K → Ordering) (ks : List K) (x : K) → IsStrictlySortedBy R ks → AllByRecursion (λ k. R k x ≡ Less) ks → IsStrictlySortedBy R (ks ++ x ∷ [])
unfolding IsStrictlySortedBy
rises_push R [] x up below = (tt, tt)
rises_push R (k ∷ ks) x up below = (each_append (λ y. R k y ≡ Less) ks (x ∷ []) up.0 (below.0, tt), rises_push R ks x up.1 below.1)

pub each_drop : {X : Type 0} (P : X → Type 0) (n : ℕ) (xs : List X) → AllByRecursion P xs → AllByRecursion P (drop n xs)
each_drop P zero xs h = h
each_drop P (suc n) [] h = tt
each_drop P (suc n) (x ∷ xs) h = each_drop P n xs h.1

pub any-filter : {X : Type 0} (p : X → Bool) (xs : List X) → list_any p xs ≡ nat_lt 0 (length (filter p xs))
any-filter p [] = refl
any-filter p (x ∷ xs) =
    elim (p x) as (λ b. (b || list_any p xs) ≡ nat_lt 0 (length (cond b (x ∷ filter p xs) (filter p xs)))) [ true ↦ grind (arith, nat_tests) | false ↦ any-filter p xs ]

pub each_true : {X : Type 0} (P : X → Type 0) → ((x : X) → P x) → (xs : List X) → AllByRecursion P xs
each_true P f [] = tt
each_true P f (x ∷ xs) = (f x, each_true P f xs)

-- what a list has
pub has_cases : {X : Type 0} (x : X) (xs : List X) (y : X) → Contains (x ∷ xs) y → (x ≡ y) ⊎ Contains xs y
has_cases x xs y (zero, within, at) = inl at
has_cases x xs y (suc k, within, at) = inr (k, omega arith, at)

pub has_later : {X : Type 0} (x : X) (xs : List X) (y : X) → Contains xs y → Contains (x ∷ xs) y
has_later x xs y (k, within, at) = (suc k, omega arith, at)

pub has_first : {X : Type 0} (x : X) (xs : List X) → Contains (x ∷ xs) x
has_first x xs = (0, omega arith, refl)

pub has_none : {X : Type 0} {G : Type 0} (y : X) → Contains [] y → G
has_none y (k, within, at) = absurd (omega arith)

pub kept_in : {X : Type 0} (p : X → Bool) (xs : List X) (x : X) → Contains (filter p xs) x → Contains xs x × (p x ≡ true)
kept_in p xs x has = (All-contains (Contains xs) (filter p xs) x (All-filter p (Contains xs) xs (All-contains_itself xs)) has, All-contains (λ y. p y ≡ true) (filter p xs) x (filter_passes p xs) has)

pub in_kept : {X : Type 0} (p : X → Bool) (xs : List X) (x : X) → Contains xs x → p x ≡ true → Contains (filter p xs) x
in_kept p [] x has e = has_none x has
in_kept p (y ∷ ys) x has e =
    ⊎_elim (λ same. let passes : p y ≡ true = ap p same ∙ e in rw passes (subst (λ z. Contains (y ∷ filter p ys) z) same (has_first y (filter p ys))))
    (λ later. let rest = in_kept p ys x later e in elim (p y) as (λ b. Contains (cond b (y ∷ filter p ys) (filter p ys)) x) [ true ↦ has_later y (filter p ys) x rest | false ↦ rest ])
    (has_cases y ys x has)

-- one more thing at the end of a list, kept or left out
pub filter-in : {X : Type 0} (p : X → Bool) (xs : List X) (x : X) → p x ≡ true → filter p (xs ++ x ∷ []) ≡ filter p xs ++ x ∷ []
filter-in p xs x e = filter-append p xs (x ∷ []) ∙ ap (λ t. filter p xs ++ cond t (x ∷ []) []) e

pub filter-out : {X : Type 0} (p : X → Bool) (xs : List X) (x : X) → p x ≡ false → filter p (xs ++ x ∷ []) ≡ filter p xs
filter-out p xs x e = filter-append p xs (x ∷ []) ∙ ap (λ t. filter p xs ++ cond t (x ∷ []) []) e ∙ append-nil (filter p xs)

pub any_in : {X : Type 0} (p : X → Bool) (xs : List X) (x : X) → Contains xs x → p x ≡ true → list_any p xs ≡ true
any_in p [] x has e = has_none x has
any_in p (y ∷ ys) x has e =
    ⊎_elim (λ same. ap (λ b. b || list_any p ys) (ap p same ∙ e)) (λ later. ap (λ b. p y || b) (any_in p ys x later e) ∙ or-true (p y)) (has_cases y ys x has)

-- two different things make a list of more than one
pub many : {X : Type 0} (xs : List X) (a b : X) → a ≢ b → Contains xs a → Contains xs b → nat_lt 1 (length xs) ≡ true
many [] a b differ has_a has_b = has_none a has_a
many {X = X} (x ∷ []) a b differ has_a has_b =
    let only = λ (y : X) (has : Contains (x ∷ []) y). let same : x ≡ y = ⊎_elim (λ e. e) (λ later. has_none y later) (has_cases x [] y has) in same in
    absurd (differ (sym (only a has_a) ∙ only b has_b))
many (x ∷ y ∷ xs) a b differ has_a has_b = grind (arith, nat_tests)

pub each_take : {X : Type 0} (P : X → Type 0) (n : ℕ) (xs : List X) → AllByRecursion P xs → AllByRecursion P (take n xs)
each_take P zero xs h = tt
each_take P (suc n) [] h = tt
each_take P (suc n) (x ∷ xs) h = (h.0, each_take P n xs h.1)

pub any_none : {X : Type 0} (p : X → Bool) (xs : List X) → AllByRecursion (λ x. p x ≡ false) xs → list_any p xs ≡ false
any_none p [] h = refl
any_none p (x ∷ xs) h = rw h.0 (any_none p xs h.1)

-- where a search has cut a list
pub each_before : {X : Type 0} (P : X → Type 0) (xs : List X) (i : ℕ) → AllWithin P xs 0 i → AllByRecursion P (take i xs)
each_before P xs i all = recursion_from_All P (take i xs) (λ k d h. let below : k < i = omega (arith, length-take i xs) in subst P (sym (get_or-take i xs k d below)) (all k d (omega arith) below))

pub each_behind : {X : Type 0} (P : X → Type 0) (xs : List X) (i : ℕ) → AllWithin P xs i (length xs) → AllByRecursion P (drop i xs)
each_behind P xs i all = recursion_from_All P (drop i xs) (λ k d h. subst P (sym (get_or-drop i xs k d)) (all (i + k) d (omega arith) (omega (arith, length-drop i xs))))

pub prefix_from_point : {X : Type 0} (p : X → Bool) (xs : List X) (i : ℕ) → i ≤ length xs → IsPartitionPoint (λ x. p x ≡ true) (λ x. p x ≡ false) xs i → i ≡ prefix_len p xs
prefix_from_point p [] i bound point = omega arith
prefix_from_point p (x ∷ xs) i bound point = sym (prefix_len_is p (x ∷ xs) i x bound (λ k h. point.0 k x (omega arith) h) (λ h. point.1 i x (omega arith) h))

pub parted_tail : {X : Type 0} (p : X → Bool) (x : X) (xs : List X) → IsPartitionedBy p (x ∷ xs) → IsPartitionedBy p xs
parted_tail p x xs parted = λ i j d le h. parted (suc i) (suc j) d (omega arith) (omega arith)

-- if only a prefix of a list passes a test, the rest is what fails it
pub drop-parted : {X : Type 0} (p : X → Bool) (xs : List X) → IsPartitionedBy p xs → drop (prefix_len p xs) xs ≡ filter (λ x. not (p x)) xs
drop-parted p [] parted = refl
drop-parted p (x ∷ xs) parted =
    let one_more : 1 + prefix_len p xs ≡ suc (prefix_len p xs) = omega arith in
    elim (p x) as (λ b. p x ≡ b → drop (cond b (1 + prefix_len p xs) 0) (x ∷ xs) ≡ cond (not b) (x ∷ filter (λ y. not (p y)) xs) (filter (λ y. not (p y)) xs)) [
      | true ↦ λ e. ap (λ n. drop n (x ∷ xs)) one_more ∙ drop-parted p xs (parted_tail p x xs parted)
      | false ↦ λ e. ap (λ ys. x ∷ ys) (sym (all_same (λ y. not (p y)) xs (recursion_from_All (λ y. not (p y) ≡ true) xs (λ k d h. elim (p (get_or xs k d)) as (λ b. p (get_or xs k d) ≡ b → not b ≡ true) [ true ↦ λ t. absurd (false≢true (sym e ∙ parted 0 (suc k) d (omega arith) (omega arith) t)) | false ↦ λ _. refl ] refl))))
    ] refl

-- a test that holds of a thing where it holds of a greater one
pub parted_by : {K : Type 0} (R : K → K → Ordering) (p : K → Bool) → ((u v : K) → R u v ≡ Less → p v ≡ true → p u ≡ true) → (us : List K) → IsStrictlySortedBy R us → IsPartitionedBy p us
parted_by R p falls us up = λ i j d le h passes.
    ⊎_elim (λ lt. falls (get_or us i d) (get_or us j d) (Less-from_sorted R us i j d up lt h) passes) (λ ge. let same : i ≡ j = omega arith in subst (λ n. p (get_or us n d) ≡ true) (sym same) passes) (cases_lt i j)
