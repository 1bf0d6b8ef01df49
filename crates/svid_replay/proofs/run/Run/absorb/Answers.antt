use Rattle.std.proofs.Common.{◌∙◌, sym, subst}
use Rattle.svid_replay.specs.Keys.{expiry_cmp}
use Rattle.svid_replay.specs.Use.{IsRising, use_cmp}
use Rattle.svid_replay.proofs.MergeLemmas.{merge, merge_rises}
use Rattle.svid_replay.proofs.RunsLemmas.{keys_merged, run_made, run_swept}
use Rattle.svid_replay.proofs.UseLemmas.{use_exact, use_total}
use Rattle.svid_replay.proofs.run.Run.absorb.Goals as goal

pub invariant_of-self : goal.invariant_of-self
invariant_of-self c = run_swept _ _ _ _ _ _ _ c.self.invariant c.sweep.ensures

pub invariant_of-other : goal.invariant_of-other
invariant_of-other c = run_swept _ _ _ _ _ _ _ c.other.invariant c.sweep-2.ensures

pub invariant_of-self-in_err-self-inside : goal.invariant_of-self-in_err-self-inside
invariant_of-self-in_err-self-inside c = run_swept _ _ _ _ _ _ _ c.self.invariant c.sweep.ensures

pub invariant_of-other-in_err-self-inside : goal.invariant_of-other-in_err-self-inside
invariant_of-other-in_err-self-inside c = run_swept _ _ _ _ _ _ _ c.other.invariant c.sweep-2.ensures

pub invariant_of-self-2 : goal.invariant_of-self-2
invariant_of-self-2 c =
    let both = keys_merged _ _ _ _ _ _ _ _ _ _ _ _ _ _ _ _ c.self.invariant c.other.invariant c.self.view_is c.other.view_is (c.in_ok-by_key.ensures ∙ (λ k. merge expiry_cmp ((c.deref.ensures.value ∙ c.sweep.ensures) k) ((c.deref-2.ensures.value ∙ c.sweep-2.ensures) k))) (c.deref-3.ensures.value ∙ c.in_ok-by_use.ensures ∙ (λ k. merge use_cmp (c.uses.ensures.value k) (c.uses-2.ensures.value k))) in
    run_made _ _ _ _ _ (subst IsRising (sym c.in_ok-by_use.ensures) (merge_rises use_total use_exact _ _ c.uses.ensures.rising c.uses-2.ensures.rising)) c.deref-3.ensures.value both.sorted both.told c.in_ok-self-inside.ensures.some c.in_ok-self-inside.ensures.known

pub invariant_of-other-2 : goal.invariant_of-other-2
invariant_of-other-2 c = run_swept _ _ _ _ _ _ _ c.other.invariant c.sweep-2.ensures
