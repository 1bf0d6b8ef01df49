use Rattle.svid_wire.proofs.MessagesLemmas.{old_batches_are_read}
use Rattle.svid_wire.proofs.laws.old_batches_are_read.Goals as goal

pub returns : goal.returns
returns c = old_batches_are_read
