use Rattle.svid_c.proofs.CallersLemmas.{own_fault}
use Rattle.svid_c.proofs.callers.push_line.Goals as goal

pub returns-in-Err-clause-fault : goal.returns-in-Err-clause-fault
returns-in-Err-clause-fault c = own_fault _ _ c.in-Err.ensures.fault
