use Rattle.svid_check.proofs.AnsweredLemmas.{answers_tell}
use Rattle.svid_check.proofs.laws.answers_tell_all.Goals as goal

pub returns : goal.returns
returns c = answers_tell
