use Rattle.svid_group.proofs.VerdictsLemmas.{claims_are_verdicts, judged_are_verdicts, renewed_are_verdicts}
use Rattle.svid_group.proofs.laws.accepted_claims_are_verdicts.Goals as goal

pub returns : goal.returns
returns c = record { claims = claims_are_verdicts; judged = judged_are_verdicts; renewed = renewed_are_verdicts }
