use Rattle.svid_group.proofs.ReadsLemmas.{reads_are_events}
use Rattle.svid_group.proofs.laws.reads_are_events.Goals as goal

pub returns : goal.returns
returns c = reads_are_events
