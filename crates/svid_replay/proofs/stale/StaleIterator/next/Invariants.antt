use Rattle.std.proofs.Common.{◌≡◌, length}
use Rattle.std.specs.List.{filter}
use Rattle.svid_replay.specs.Buckets.{differ_at}
use Rattle.svid_replay.proofs.stale.StaleIterator.next.Given as goal

-- no stale use was skipped
abbrev pub invariant-loop-used : goal.invariant-loop-used
invariant-loop-used g l = let stale = filter (differ_at l.self-inside.digests l.self-inside.summary.now.digests) l.self-inside.walk in record {
  passed : stale ≡ l.fn.self;
  left : l.self-inside.left ≡ length stale;
}

abbrev pub decreases-loop-used : goal.decreases-loop-used
decreases-loop-used g l = length l.self-inside.walk
