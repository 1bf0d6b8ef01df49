use Rattle.std.proofs.Common.{length}
use Rattle.svid_uses.proofs.CutLemmas.{HasCut}
use Rattle.svid_uses.proofs.cutting.cut.Given as goal

abbrev pub invariant-loop-first : goal.invariant-loop-first
invariant-loop-first l = HasCut l.uses l.rest l.batches.items

abbrev pub decreases-loop-first : goal.decreases-loop-first
decreases-loop-first l = length l.rest
