use Rattle.svid_shards.proofs.BucketsLemmas.{answers_tell_answer}
use Rattle.svid_shards.proofs.laws.answers_tell_the_answer.Goals as goal

pub returns : goal.returns
returns c = answers_tell_answer
