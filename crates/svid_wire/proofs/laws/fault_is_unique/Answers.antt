use Rattle.svid_wire.proofs.FirstMessage.{fault_is_unique}
use Rattle.svid_wire.proofs.laws.fault_is_unique.Goals as goal

pub returns : goal.returns
returns c = fault_is_unique
