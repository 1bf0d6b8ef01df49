use Rattle.svid_log.proofs.SavesLemmas.{puts_more}
use Rattle.svid_log.proofs.claims.Claims.restore.Goals as goal

pub loop-used-preserved : goal.loop-used-preserved
loop-used-preserved g c = puts_more _ _ _ _ _ c.loop-used-test.true c.loop-used.invariant c.in_ok-put.ensures.ok
