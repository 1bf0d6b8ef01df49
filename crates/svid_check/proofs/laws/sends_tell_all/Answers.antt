use Rattle.svid_check.proofs.SendsLemmas.{acceptance_goes_along, acceptance_tells, accepted_is_refused, chains_tell, sends_tell, told_is_refused}
use Rattle.svid_check.proofs.laws.sends_tell_all.Goals as goal

pub returns-clause-whole : goal.returns-clause-whole
returns-clause-whole c = sends_tell

pub returns-clause-chains : goal.returns-clause-chains
returns-clause-chains c = chains_tell

pub returns-clause-refused : goal.returns-clause-refused
returns-clause-refused c = told_is_refused

pub returns-clause-accepted : goal.returns-clause-accepted
returns-clause-accepted c = accepted_is_refused

pub returns-clause-first : goal.returns-clause-first
returns-clause-first c = acceptance_tells

pub returns-clause-along : goal.returns-clause-along
returns-clause-along c = acceptance_goes_along
