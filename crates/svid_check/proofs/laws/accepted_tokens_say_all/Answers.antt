use Rattle.svid_check.proofs.SaidLemmas.{unrefused_is_said}
use Rattle.svid_check.proofs.VerdictLemmas.{not_of_nothing}
use Rattle.svid_check.proofs.laws.accepted_tokens_say_all.Goals as goal

pub returns : goal.returns
returns c = record { said = unrefused_is_said; accepted = not_of_nothing }
