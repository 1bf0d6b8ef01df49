use Rattle.svid_log.proofs.CallsLemmas.{reads_are_events}
use Rattle.svid_log.proofs.laws.reads_are_events.Goals as goal

pub returns : goal.returns
returns c = reads_are_events
