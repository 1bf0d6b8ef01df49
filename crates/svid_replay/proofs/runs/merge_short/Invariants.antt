use Rattle.std.proofs.Common.{length}
use Rattle.svid_replay.specs.Runs.{AreMerged}
use Rattle.svid_replay.proofs.runs.merge_short.Given as goal

abbrev pub invariant-loop-alloc : goal.invariant-loop-alloc
invariant-loop-alloc l = AreMerged l.fn.runs.items l.runs.items

abbrev pub decreases-loop-alloc : goal.decreases-loop-alloc
decreases-loop-alloc l = length l.runs.items
