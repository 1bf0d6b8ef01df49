use Rattle.std.proofs.Common.{◌≡◌, ◌<◌, ◌≤◌, ◌+◌, ℕ, zero, suc, true, not, nat_lt, List, [], ◌∷◌, ◌++◌, length, take, drop, get_or, refl, sym, ◌∙◌, ap, subst, arith, Contains}
use Rattle.std.proofs.lemmas.Cmp.{nat_cmp_total, on_total, then_total, tied_itself}
use Rattle.std.proofs.lemmas.List.Elements.{All-contains, All-contains_itself, All-from_recursion, All-weaker, recursion_from_All}
use Rattle.std.proofs.lemmas.Bool.Decides.{nat_tests}
use Rattle.std.proofs.lemmas.List.{drop_more, length-take-le, take-append-drop}
use Rattle.std.specs.Cmp.{IsTotalOrder}
use Rattle.std.specs.FinMap.{IsAntisymmetric}
use Rattle.std.specs.List.{AllByRecursion}
use Rattle.std.specs.List.Sorted.{IsStrictlySortedBy}
use Rattle.std.specs.Ordering.{eq_by_cmp, is_eq, nat_cmp, ordering_then}
use Rattle.std.specs.declared.cmp.Ordering.{Ordering}
use Rattle.std.specs.declared.cmp.Ordering.TheVariants.{Less, Equal, Greater}
use Rattle.svid_replay.specs.declared.token_use.Use.{Use}
use Rattle.svid_replay.specs.Use.{IsRising, use_cmp}
use Rattle.svid_replay.proofs.ListLemmas.{each_take}
use Rattle.svid_replay.proofs.UseLemmas.{use_exact, use_total}
use Rattle.svid_uses.specs.Time.{HasSameUses, IsFirstExpired, IsInTime, IsTellable, time_cmp}

pub time_total : IsTotalOrder time_cmp
time_total = then_total (on_total (λ (u : Use). u.at) nat_cmp_total) use_total

-- uses that compare as equal are the same
second_equal : (a b : Ordering) → ordering_then a b ≡ Equal → b ≡ Equal
second_equal Equal b e = e
second_equal Less b e = absurd (cc)
second_equal Greater b e = absurd (cc)

pub time_exact : IsAntisymmetric time_cmp
time_exact u v e = use_exact u v (second_equal (nat_cmp u.at v.at) (use_cmp u v) e)

equal_of : (o : Ordering) → is_eq o ≡ true → o ≡ Equal
equal_of Equal e = refl
equal_of Less e = absurd (cc)
equal_of Greater e = absurd (cc)

pub time_same : (u v : Use) → eq_by_cmp time_cmp u v ≡ true → u ≡ v
time_same u v e = time_exact u v (equal_of (time_cmp u v) e)

-- what holds of everything that a list contains
pub each_contained : (P : Use → Type 0) (us : List Use) → ((u : Use) → Contains us u → P u) → AllByRecursion P us
each_contained P us f = recursion_from_All P us (All-weaker (Contains us) P f us (All-contains_itself us))

pub each_both : {X : Type 0} (P Q R : X → Type 0) → ((x : X) → P x → Q x → R x) → (xs : List X) → AllByRecursion P xs → AllByRecursion Q xs → AllByRecursion R xs
each_both P Q R f [] p q = tt
each_both P Q R f (x ∷ xs) p q = (f x p.0 q.0, each_both P Q R f xs p.1 q.1)

-- uses of one time that stand in the order of their times rise
itself : (a : ℕ) → nat_cmp a a ≡ Equal
itself a = tied_itself nat_cmp_total a

rises_above : (u v : Use) → u.at ≡ v.at → time_cmp u v ≡ Less → use_cmp u v ≡ Less
rises_above u v e less =
    let tied : nat_cmp u.at v.at ≡ Equal = subst (λ (n : ℕ). nat_cmp u.at n ≡ Equal) e (itself u.at) in
    subst (λ (o : Ordering). ordering_then o (use_cmp u v) ≡ Less) tied less

pub rises_at : (moment : ℕ) (us : List Use) → AllByRecursion (λ u. u.at ≡ moment) us → IsInTime us → IsRising us
unfolding IsStrictlySortedBy
rises_at moment [] at up = tt
rises_at moment (u ∷ us) at up = (
  each_both (λ v. v.at ≡ moment) (λ v. time_cmp u v ≡ Less) (λ v. use_cmp u v ≡ Less) (λ v e less. rises_above u v (at.0 ∙ sym e) less) us at.1 up.0,
  rises_at moment us at.1 up.1,
)

pub in_time_take : (n : ℕ) (us : List Use) → IsInTime us → IsInTime (take n us)
unfolding IsStrictlySortedBy
in_time_take zero us up = tt
in_time_take (suc n) [] up = tt
in_time_take (suc n) (u ∷ us) up = (each_take (λ v. time_cmp u v ≡ Less) n us up.0, in_time_take n us up.1)

pub in_time_drop : (n : ℕ) (us : List Use) → IsInTime us → IsInTime (drop n us)
unfolding IsStrictlySortedBy
in_time_drop zero us up = up
in_time_drop (suc n) [] up = tt
in_time_drop (suc n) (u ∷ us) up = in_time_drop n us up.1

-- the first use that had expired when it was made
pub is_first : (us : List Use) (i : ℕ) (d : Use) → i < length us → AllByRecursion IsTellable (take i us) → not (nat_lt (get_or us i d).at (get_or us i d).exp) ≡ true → IsFirstExpired us i
is_first us i d lt good late = record {
  front = take i us;
  bad = get_or us i d;
  rest = drop (i + 1) us;
  parts = sym (take-append-drop i us) ∙ ap (λ xs. take i us ++ xs) (drop_more us i d lt);
  counted = length-take-le i us (omega arith);
  good = good;
  expired = no_less (get_or us i d).at (get_or us i d).exp late;
}
  where
    no_less : (a b : ℕ) → not (nat_lt a b) ≡ true → b ≤ a
    no_less a b e = grind (arith, nat_tests)

-- what holds of each use of a list holds of each of one with the same uses
pub each_same : (P : Use → Type 0) (us vs : List Use) → HasSameUses us vs → AllByRecursion P us → AllByRecursion P vs
each_same P us vs same each = each_contained P vs (λ u has. All-contains P us u (All-from_recursion P us each) ((same u).1 has))
