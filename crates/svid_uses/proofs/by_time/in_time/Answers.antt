use Rattle.std.proofs.Common.{◌≡◌, refl, rules, subst, sym}
use Rattle.std.proofs.lemmas.Cmp.{eq_by_cmp_equiv}
use Rattle.std.proofs.lemmas.Fn.{always_returns_same, dedup_same}
use Rattle.std.proofs.lemmas.List.Kept.{Contains-dedup, Contains-from_dedup, IsStrictlySortedBy-dedup}
use Rattle.std.proofs.lemmas.List.Sorted.{Contains-permutation, IsPermutation-sym, ranks_by}
use Rattle.std.specs.List.{Contains}
use Rattle.std.specs.Ordering.{eq_by_cmp, is_lt}
use Rattle.svid_uses.specs.Time.{IsInTime, time_cmp}
use Rattle.svid_uses.proofs.TimeLemmas.{time_same, time_total}
use Rattle.svid_uses.proofs.by_time.in_time.Goals as goal

pub returns-clause-in_time : goal.returns-clause-in_time
returns-clause-in_time c =
    let is = dedup_same _ (eq_by_cmp time_cmp) _ (λ x y b f' x' y' k. search rules) _ _ c.dedup_by.ensures.filtered in
    let up = c.sort_unstable_by.ensures.sorted (λ u v. is_lt (time_cmp u v)) (ranks_by time_total (λ u. u)) (always_returns_same _ (λ a r. is_lt r ≡ is_lt (time_cmp a.0.now a.1.0.now)) _ (λ a r f' k. search rules)) in
    subst IsInTime (sym is) (IsStrictlySortedBy-dedup time_total (λ u v. refl) _ up)

pub returns-clause-same : goal.returns-clause-same
returns-clause-same c =
    let is = dedup_same _ (eq_by_cmp time_cmp) _ (λ x y b f' x' y' k. search rules) _ _ c.dedup_by.ensures.filtered in
    let moved = c.sort_unstable_by.ensures.permutation in
    λ u. (
      λ has. subst (λ us. Contains us u) (sym is) (Contains-dedup (eq_by_cmp_equiv time_total) time_same _ u (Contains-permutation _ _ u moved has)),
      λ has. Contains-permutation _ _ u (IsPermutation-sym _ _ moved) (Contains-from_dedup (eq_by_cmp time_cmp) _ u (subst (λ us. Contains us u) is has)),
    )
