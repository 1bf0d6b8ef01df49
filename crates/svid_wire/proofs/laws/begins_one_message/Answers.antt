use Rattle.svid_wire.proofs.FirstMessage.{begins_one_message}
use Rattle.svid_wire.proofs.laws.begins_one_message.Goals as goal

pub returns : goal.returns
returns c = begins_one_message
