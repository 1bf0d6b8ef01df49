use Rattle.svid_keys.proofs.BundlesLemmas.{bundles_fault-first, bundles_fault-from_first}
use Rattle.svid_keys.proofs.laws.bundles_fault_is_first.Goals as goal

pub returns : goal.returns
returns c = λ text fault. (bundles_fault-first text fault, bundles_fault-from_first text fault)
