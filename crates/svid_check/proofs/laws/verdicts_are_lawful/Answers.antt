use Rattle.svid_check.proofs.LawfulLemmas.{is_used, alive, fresh, in_range, made_now, of_its_input}
use Rattle.svid_check.proofs.laws.verdicts_are_lawful.Goals as goal

pub returns : goal.returns
returns c = record { made_now = made_now; alive = alive; fresh = fresh; of_its_input = of_its_input; in_range = in_range; used = is_used }
