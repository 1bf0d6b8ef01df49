use Rattle.svid_answers.proofs.AloneLemmas.{tokens_are_answered_once_here}
use Rattle.svid_answers.proofs.laws.tokens_are_answered_once_here.Goals as goal

pub returns : goal.returns
returns c = tokens_are_answered_once_here
