use Rattle.svid_snapshot.proofs.SnapshotsLemmas.{pieces_are_allowed}
use Rattle.svid_snapshot.proofs.laws.pieces_make_snapshots.Goals as goal

pub returns : goal.returns
returns c = pieces_are_allowed
