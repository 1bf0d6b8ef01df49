use Rattle.svid_replay.proofs.BatchesLemmas.{HasSeen}
use Rattle.svid_replay.proofs.batch.first_fault.Given as goal

abbrev pub invariant-loop-index : goal.invariant-loop-index
invariant-loop-index l = HasSeen l.moment l.uses l.index l.before
