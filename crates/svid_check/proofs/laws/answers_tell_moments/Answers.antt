use Rattle.svid_check.proofs.RunsLemmas.{answers_tell_moments}
use Rattle.svid_check.proofs.laws.answers_tell_moments.Goals as goal

pub returns : goal.returns
returns c = answers_tell_moments
