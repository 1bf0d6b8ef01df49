use Rattle.svid_replay.proofs.RecordsLemmas.{join_holds_unexpired}
use Rattle.svid_replay.proofs.laws.joins_hold.Goals as goal

pub returns : goal.returns
returns c = join_holds_unexpired
