use Rattle.svid_wire.proofs.MessagesLemmas.{parse_ends}
use Rattle.svid_wire.proofs.laws.parse_ends.Goals as goal

pub returns : goal.returns
returns c = parse_ends
