use Rattle.svid_group.proofs.VerdictsLemmas.{input_is_accepted_once}
use Rattle.svid_group.proofs.laws.inputs_are_accepted_once.Goals as goal

pub returns : goal.returns
returns c = input_is_accepted_once
