use Rattle.svid_answers.proofs.ExamplesLemmas.{bound_answers, once_answers, strict_answers}
use Rattle.svid_answers.proofs.laws.histories_happen.Goals as goal

pub returns : goal.returns
returns c = record { strict = strict_answers; bound = bound_answers; once = once_answers }
