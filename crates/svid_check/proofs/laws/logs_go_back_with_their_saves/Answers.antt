use Rattle.svid_check.proofs.ForgetfulLemmas.{answers_are_forgotten, sends_are_forgotten}
use Rattle.svid_check.proofs.laws.logs_go_back_with_their_saves.Goals as goal

pub returns : goal.returns
returns c = record { sends = sends_are_forgotten; answers = answers_are_forgotten }
