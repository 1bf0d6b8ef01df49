use Rattle.svid_wire.proofs.MessagesLemmas.{written_is_read}
use Rattle.svid_wire.proofs.laws.written_is_read.Goals as goal

pub returns : goal.returns
returns c = written_is_read
