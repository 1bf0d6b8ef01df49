use Rattle.svid_shards.proofs.BucketsLemmas.{digests_are_summary}
use Rattle.svid_shards.proofs.laws.digests_are_the_summary.Goals as goal

pub returns : goal.returns
returns c = digests_are_summary
