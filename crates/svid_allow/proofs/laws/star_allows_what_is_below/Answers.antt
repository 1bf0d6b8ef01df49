use Rattle.svid_allow.proofs.AllowsLemmas.{below-longer, below-step}
use Rattle.svid_allow.proofs.LawLemmas.{below-allows}
use Rattle.svid_allow.proofs.laws.star_allows_what_is_below.Goals as goal

pub returns-clause-allows : goal.returns-clause-allows
returns-clause-allows c = below-allows

pub returns-clause-step : goal.returns-clause-step
returns-clause-step c = below-step

pub returns-clause-longer : goal.returns-clause-longer
returns-clause-longer c = below-longer
