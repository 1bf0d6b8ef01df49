use Rattle.svid_wire.proofs.MessagesLemmas.{parses_one_way}
use Rattle.svid_wire.proofs.laws.parses_one_way.Goals as goal

pub returns : goal.returns
returns c = parses_one_way
