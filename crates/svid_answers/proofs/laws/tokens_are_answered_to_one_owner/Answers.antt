use Rattle.svid_answers.proofs.GroupLemmas.{tokens_are_answered_to_one_caller, tokens_are_answered_to_one_owner}
use Rattle.svid_answers.proofs.laws.tokens_are_answered_to_one_owner.Goals as goal

pub returns : goal.returns
returns c = record { owner = tokens_are_answered_to_one_owner; caller = tokens_are_answered_to_one_caller }
