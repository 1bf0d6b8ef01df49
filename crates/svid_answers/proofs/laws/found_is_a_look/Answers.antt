use Rattle.svid_answers.proofs.LooksLemmas.{found_is_a_look}
use Rattle.svid_answers.proofs.laws.found_is_a_look.Goals as goal

pub returns : goal.returns
returns g c = found_is_a_look _
