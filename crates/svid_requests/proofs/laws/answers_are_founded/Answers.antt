use Rattle.svid_requests.proofs.CountsLemmas.{accepted_as_found, accepted_as_judged}
use Rattle.svid_requests.proofs.SoundLemmas.{answers_are_founded}
use Rattle.svid_requests.proofs.laws.answers_are_founded.Goals as goal

pub returns : goal.returns
returns c = record { founded = answers_are_founded; judged = accepted_as_judged; found = accepted_as_found }
