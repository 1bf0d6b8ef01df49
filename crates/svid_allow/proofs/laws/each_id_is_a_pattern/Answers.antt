use Rattle.svid_allow.proofs.LawLemmas.{id-is-pattern}
use Rattle.svid_allow.proofs.PatternLemmas.{AllPass-no_star, IsPattern-below}
use Rattle.svid_allow.proofs.laws.each_id_is_a_pattern.Goals as goal

pub returns-clause-no_star : goal.returns-clause-no_star
returns-clause-no_star c = AllPass-no_star

pub returns-clause-id : goal.returns-clause-id
returns-clause-id c = id-is-pattern

pub returns-clause-below : goal.returns-clause-below
returns-clause-below c = IsPattern-below
