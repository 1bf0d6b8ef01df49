use Rattle.svid_check.proofs.AloneLemmas.{accepts_once}
use Rattle.svid_check.proofs.laws.tokens_are_accepted_once.Goals as goal

pub returns : goal.returns
returns c = accepts_once
