use Rattle.svid_wire.proofs.WireFaultLemmas.{IsFieldFault-append}
use Rattle.svid_wire.proofs.laws.field_fault_stays.Goals as goal

pub returns : goal.returns
returns c = IsFieldFault-append
