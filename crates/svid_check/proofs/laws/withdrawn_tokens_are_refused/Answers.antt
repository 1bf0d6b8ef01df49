use Rattle.svid_check.proofs.SendsLemmas.{withdrawn_are_refused}
use Rattle.svid_check.proofs.laws.withdrawn_tokens_are_refused.Goals as goal

pub returns : goal.returns
returns c = withdrawn_are_refused
