use Rattle.std.proofs.Common.{length}
use Rattle.svid_replay.proofs.IndexedLemmas.{HasDropped}
use Rattle.svid_replay.proofs.indexed_uses.drop_expired.Given as goal

abbrev pub invariant-loop-used : goal.invariant-loop-used
invariant-loop-used l = HasDropped l.moment l.fn.by_use.keys l.by_use.keys l.by_key.keys

abbrev pub decreases-loop-used : goal.decreases-loop-used
decreases-loop-used l = length l.by_use.keys
