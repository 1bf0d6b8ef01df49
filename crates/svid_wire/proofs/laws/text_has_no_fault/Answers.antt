use Rattle.svid_wire.proofs.FirstMessage.{text_has_no_fault}
use Rattle.svid_wire.proofs.laws.text_has_no_fault.Goals as goal

pub returns : goal.returns
returns c = text_has_no_fault
