use Rattle.std.proofs.Common.{◌∙◌, ap, arith, refl, rules, sym, subst, map}
use Rattle.std.proofs.lemmas.Fn.{dedup_same}
use Rattle.std.proofs.lemmas.List.{take_all}
use Rattle.std.proofs.lemmas.List.Kept.{IsStrictlySortedBy-dedup}
use Rattle.std.proofs.lemmas.List.Sorted.{list_any-IsPermutation}
use Rattle.std.specs.List.{list_any}
use Rattle.std.specs.Ordering.{eq_by_cmp}
use Rattle.svid_replay.specs.Keys.{AreKeys, expiry_cmp, expiry_of}
use Rattle.svid_replay.proofs.KeysLemmas.{any_dedup, any_until, until_tied, until_total}
use Rattle.svid_replay.proofs.keys.keys_of.Goals as goal

pub returns-clause-sorted : goal.returns-clause-sorted
returns-clause-sorted c =
    let once = dedup_same _ (eq_by_cmp expiry_cmp) _ (λ x y b f' x' y' k. search rules) _ _ c.dedup_by.ensures.filtered in
    subst AreKeys (sym once) (IsStrictlySortedBy-dedup until_total (λ x y. refl) _ c.sort_unstable.ensures.sorted)

pub returns-clause-told : goal.returns-clause-told
returns-clause-told c = λ p.
    let once = dedup_same _ (eq_by_cmp expiry_cmp) _ (λ x y b f' x' y' k. search rules) _ _ c.dedup_by.ensures.filtered in
    ap (list_any p) once ∙ any_dedup (eq_by_cmp expiry_cmp) p until_tied _ ∙ sym (list_any-IsPermutation p _ _ c.sort_unstable.ensures.permutation)
    ∙ ap (list_any p) (c.loop-used.invariant ∙ ap (map expiry_of) (take_all c.loop-used.used-index c.args.uses.now (omega (arith, c.loop-used-test.false)))) ∙ any_until p c.args.uses.now
