use Rattle.svid_group.proofs.ToldLemmas.{acceptance_goes_along, accepted_is_refused, chains_tell, claimed_is_refused, sends_tell_all, told_is_refused, withdrawn_are_refused}
use Rattle.svid_group.proofs.laws.told_tokens_are_refused.Goals as goal

pub returns : goal.returns
returns c = record { told = told_is_refused; claimed = claimed_is_refused; accepted = accepted_is_refused; withdrawn = withdrawn_are_refused; whole = sends_tell_all; chains = chains_tell; along = acceptance_goes_along }
