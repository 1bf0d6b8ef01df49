use Rattle.std.proofs.Common.{◌∙◌, arith, subst, sym}
use Rattle.std.specs.List.{AllByRecursion}
use Rattle.svid_replay.specs.Runs.{HasBits}
use Rattle.svid_replay.proofs.RunsLemmas.{run_moved}
use Rattle.svid_replay.proofs.run.Run.tidy.Goals as goal

pub drop_front-requires : goal.drop_front-requires
drop_front-requires c = c.self.invariant.bound

pub invariant_of-self : goal.invariant_of-self
invariant_of-self c =
    let now = c.shrink_to_fit.ensures.items ∙ c.drop_front.ensures in
    run_moved _ _ _ _ _ _ _ _ _ c.self.invariant now (c.shrink_to_fit-2.ensures.items ∙ c.sweep.ensures) (omega (arith, c.renew.ensures.long, c.self.invariant.some))
    (subst (AllByRecursion (λ u. HasBits c.renew.new.key_filter.items u.key)) (c.deref.ensures.value ∙ sym c.shrink_to_fit.ensures.items) c.renew.ensures.known)

pub returns : goal.returns
returns c = c.shrink_to_fit.ensures.items ∙ c.drop_front.ensures ∙ c.self.view_is
