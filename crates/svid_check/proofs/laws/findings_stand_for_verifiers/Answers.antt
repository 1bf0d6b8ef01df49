use Rattle.svid_check.proofs.VerifiersLemmas.{findings_stand, other_findings_are_none}
use Rattle.svid_check.proofs.laws.findings_stand_for_verifiers.Goals as goal

pub returns : goal.returns
returns c = record { stands = findings_stand; other = other_findings_are_none }
