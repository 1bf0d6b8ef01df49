use Rattle.svid_wire.proofs.MessagesLemmas.{each_parses}
use Rattle.svid_wire.proofs.laws.each_parses.Goals as goal

pub returns : goal.returns
returns c = each_parses
