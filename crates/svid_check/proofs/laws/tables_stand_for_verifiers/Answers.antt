use Rattle.svid_check.proofs.VerifiersLemmas.{tables_stand}
use Rattle.svid_check.proofs.laws.tables_stand_for_verifiers.Goals as goal

pub returns : goal.returns
returns c = tables_stand
