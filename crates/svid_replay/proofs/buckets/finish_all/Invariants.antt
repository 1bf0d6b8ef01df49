use Rattle.std.proofs.Common.{List}
use Rattle.svid_replay.specs.declared.token_use.Use.{Use}
use Rattle.svid_replay.specs.Hashers.{HoldBuckets}
use Rattle.svid_replay.proofs.BucketsLemmas.{AreFinished}
use Rattle.svid_replay.proofs.buckets.finish_all.Given as goal

abbrev pub invariant-loop-bucket : goal.invariant-loop-bucket
invariant-loop-bucket l = (us : List Use) → HoldBuckets l.fn.hashers us → AreFinished us l.hashers l.digests l.bucket
