use Rattle.svid_answers.proofs.KeptExamplesLemmas.{kept_run_answers}
use Rattle.svid_answers.proofs.BoundExamplesLemmas.{bound_run_answers}
use Rattle.svid_answers.proofs.laws.runs_happen.Goals as goal

pub returns : goal.returns
returns g c = record { bound = bound_run_answers _; kept = kept_run_answers }
