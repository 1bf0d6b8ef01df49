use Rattle.std.proofs.Common.{◌∙◌}
use Rattle.svid_c.proofs.OfferLemmas.{get_one}
use Rattle.svid_c.proofs.bundles_question.candidate.Goals as goal

pub loop-key-preserved : goal.loop-key-preserved
loop-key-preserved c = (tt, tt, c.loop-key.invariant.2 ∙ get_one _ _ _ _ c.if-left-eq0.false c.in-Some.ensures.steps)
