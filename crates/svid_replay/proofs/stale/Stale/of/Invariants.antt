use Rattle.svid_replay.specs.Buckets.{differ_at}
use Rattle.svid_replay.specs.Sets.{rising}
use Rattle.svid_replay.proofs.StaleLemmas.{HasCounted}
use Rattle.svid_replay.proofs.stale.Stale.of.Given as goal

abbrev pub invariant-loop-used : goal.invariant-loop-used
invariant-loop-used g l = HasCounted (differ_at l.digests l.summary.digests) (rising l.whole.uses) l.yielded l.left
