use Rattle.svid_check.proofs.AgainLemmas.{accepted_are_judged_again}
use Rattle.svid_check.proofs.laws.accepted_tokens_are_judged_again.Goals as goal

pub returns : goal.returns
returns c = accepted_are_judged_again
