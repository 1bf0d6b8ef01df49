use Rattle.svid_answers.proofs.RunsAloneLemmas as alone
use Rattle.svid_answers.proofs.RunsKeptLemmas as kept
use Rattle.svid_answers.proofs.RunsLemmas.{runs_answer_once}
use Rattle.svid_answers.proofs.laws.runs_answer_once.Goals as goal

pub returns : goal.returns
returns g c = record { alone = alone.runs_answer_once; kept = kept.runs_answer_once; group = runs_answer_once _ }
