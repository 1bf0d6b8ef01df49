use Rattle.svid_c.proofs.LogLemmas.{put_more}
use Rattle.svid_c.proofs.validator_read.put_fates.Goals as goal

pub loop-i-preserved : goal.loop-i-preserved
loop-i-preserved c = put_more _ _ _ _ _ _ _ _ c.loop-i-test.true c.requires.0 c.requires.1 c.loop-i.invariant c.fate_seen.ensures
