use Rattle.svid_snapshot.proofs.SnapshotsLemmas.{messages_bear_no_position}
use Rattle.svid_snapshot.proofs.laws.messages_bear_no_position.Goals as goal

pub returns : goal.returns
returns c = messages_bear_no_position
