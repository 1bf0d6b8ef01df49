use Rattle.svid_keys.proofs.BundlesLemmas.{IsBundles-from_fault, bundles_fault-IsBundles}
use Rattle.svid_keys.proofs.laws.no_fault_means_bundles.Goals as goal

pub returns : goal.returns
returns c = λ text. (IsBundles-from_fault text, bundles_fault-IsBundles text)
