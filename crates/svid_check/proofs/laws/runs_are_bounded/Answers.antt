use Rattle.svid_check.proofs.BoundsLemmas.{records_are_bounded, runs_are_bounded}
use Rattle.svid_check.proofs.laws.runs_are_bounded.Goals as goal

pub returns : goal.returns
returns c = record { told = runs_are_bounded; records = records_are_bounded }
