use Rattle.svid_wire.proofs.FeedLemmas.{pushes_join}
use Rattle.svid_wire.proofs.laws.pushes_join.Goals as goal

pub returns : goal.returns
returns c = pushes_join
