use Rattle.svid_wire.proofs.FirstMessageTells.{begins_or_faults}
use Rattle.svid_wire.proofs.laws.begins_or_faults.Goals as goal

pub returns : goal.returns
returns c = begins_or_faults
