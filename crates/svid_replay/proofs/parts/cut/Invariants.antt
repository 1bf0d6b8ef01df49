use Rattle.std.proofs.Common.{length}
use Rattle.svid_replay.proofs.PartsLemmas.{HasCut}
use Rattle.svid_replay.proofs.parts.cut.Given as goal

abbrev pub invariant-loop-rest : goal.invariant-loop-rest
invariant-loop-rest l = HasCut l.moment l.uses l.rest l.batches.items

abbrev pub decreases-loop-rest : goal.decreases-loop-rest
decreases-loop-rest l = length l.rest
