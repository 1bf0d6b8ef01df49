use Rattle.svid_replay.proofs.RunsLemmas.{IsDroppedSoFar}
use Rattle.svid_replay.proofs.runs.drop_expired.Given as goal

abbrev pub invariant-loop-i : goal.invariant-loop-i
invariant-loop-i l = IsDroppedSoFar l.runs.items l.initial.runs.items l.i l.moment l.dropped
