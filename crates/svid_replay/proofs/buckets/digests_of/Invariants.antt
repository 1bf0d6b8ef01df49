use Rattle.svid_replay.specs.Hashers.{HoldBuckets}
use Rattle.svid_replay.proofs.buckets.digests_of.Given as goal

abbrev pub invariant-loop-used : goal.invariant-loop-used
invariant-loop-used g l = HoldBuckets l.hashers l.yielded
