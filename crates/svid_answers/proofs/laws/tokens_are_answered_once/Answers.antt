use Rattle.svid_answers.proofs.GroupLemmas.{tokens_are_answered_once}
use Rattle.svid_answers.proofs.laws.tokens_are_answered_once.Goals as goal

pub returns : goal.returns
returns c = tokens_are_answered_once
