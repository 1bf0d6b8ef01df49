use Rattle.svid_requests.proofs.StagesLemmas.{deeds_fit, stages_are_told}
use Rattle.svid_requests.proofs.laws.stages_are_told.Goals as goal

pub returns : goal.returns
returns c = record { told = stages_are_told; fits = deeds_fit }
