use Rattle.svid_c.proofs.EntriesLemmas.{put_more}
use Rattle.svid_c.proofs.entries_read.put_entries.Goals as goal

pub loop-i-preserved : goal.loop-i-preserved
loop-i-preserved c = put_more _ _ _ _ _ _ c.loop-i-test.true c.requires c.loop-i.invariant c.entry_seen.ensures
