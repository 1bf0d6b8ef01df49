use Rattle.svid_group.proofs.ReportsLemmas.{reports_are_exact, reports_are_whole, two_validators_are_reported}
use Rattle.svid_group.proofs.laws.reports_are_exact.Goals as goal

pub returns : goal.returns
returns c = record { exact = reports_are_exact; whole = reports_are_whole; validators = two_validators_are_reported }
