use Rattle.svid_answers.proofs.RunsLemmas.{runs_answer_callers, runs_answer_one_caller}
use Rattle.svid_answers.proofs.laws.runs_answer_one_caller.Goals as goal

pub returns : goal.returns
returns g c = record { one = runs_answer_one_caller _; callers = runs_answer_callers _ }
