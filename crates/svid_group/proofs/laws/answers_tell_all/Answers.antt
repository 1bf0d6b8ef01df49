use Rattle.svid_group.proofs.RangesLemmas.{answers_tell_all}
use Rattle.svid_group.proofs.laws.answers_tell_all.Goals as goal

pub returns : goal.returns
returns c = answers_tell_all
