use Rattle.svid_c.specs.Trust.{reads}
use Rattle.svid_c.proofs.bundles_question.ask_held.Goals as goal

pub returns : goal.returns
returns c = reads c.in-Some.bundles c.in-Some.is c.ask_one.ensures
