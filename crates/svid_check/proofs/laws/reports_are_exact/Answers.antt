use Rattle.svid_check.specs.Headline.{RecordsAreTold}
use Rattle.svid_check.proofs.EachToldLemmas.{told_were_accepted, told_were_withdrawn}
use Rattle.svid_check.proofs.ReportsLemmas.{reported_were_accepted_twice, reports_are_exact, reports_are_whole, two_validators_are_reported}
use Rattle.svid_check.proofs.SoundLemmas.{is_sound}
use Rattle.svid_check.proofs.laws.reports_are_exact.Goals as goal

records : RecordsAreTold
records group events v = ((is_sound group events).members v).is_told

pub returns-clause-exact : goal.returns-clause-exact
returns-clause-exact c = reports_are_exact records

pub returns-clause-whole : goal.returns-clause-whole
returns-clause-whole c = reports_are_whole records

pub returns-clause-accepted : goal.returns-clause-accepted
returns-clause-accepted c = told_were_accepted

pub returns-clause-twice : goal.returns-clause-twice
returns-clause-twice c = reported_were_accepted_twice records

pub returns-clause-validators : goal.returns-clause-validators
returns-clause-validators c = two_validators_are_reported records

pub returns-clause-withdrawn : goal.returns-clause-withdrawn
returns-clause-withdrawn c = told_were_withdrawn
