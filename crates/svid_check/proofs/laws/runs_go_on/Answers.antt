use Rattle.svid_check.proofs.RunsLemmas.{records_go_on, runs_go_on}
use Rattle.svid_check.proofs.laws.runs_go_on.Goals as goal

pub returns : goal.returns
returns c = record { told = runs_go_on; records = records_go_on }
