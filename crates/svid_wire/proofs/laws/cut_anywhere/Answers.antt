use Rattle.svid_wire.proofs.MessagesLemmas.{cut_anywhere}
use Rattle.svid_wire.proofs.laws.cut_anywhere.Goals as goal

pub returns : goal.returns
returns c = cut_anywhere
