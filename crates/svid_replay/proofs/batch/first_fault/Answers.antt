use Rattle.std.proofs.Common.{sym}
use Rattle.svid_replay.proofs.BatchesLemmas.{sees_more, finds_flaw, fault_of_first}
use Rattle.svid_replay.proofs.batch.first_fault.Goals as goal

pub returns-in-Some : goal.returns-in-Some
returns-in-Some c = rw c.fault_of.ensures (fault_of_first _ _ _ _ c.requires (finds_flaw _ _ _ _ _ _ c.loop-index-test.true c.loop-index.invariant (sym c.in-Some.ensures.flaw)))

pub loop-index-preserved : goal.loop-index-preserved
loop-index-preserved c = sees_more _ _ _ _ _ c.loop-index-test.true c.loop-index.invariant (sym c.in_default.ensures.flaw) c.flaw_of.ensures.fields
