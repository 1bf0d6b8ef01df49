use Rattle.svid_check.proofs.BoundsLemmas.{withdrawals_are_bounded, answers_are_bounded, checks_are_bounded, record_takes_are_bounded, takes_are_bounded, ticks_are_bounded}
use Rattle.svid_check.proofs.laws.calls_are_bounded.Goals as goal

pub returns : goal.returns
returns c = record { checks = checks_are_bounded; ticks = ticks_are_bounded; takes = takes_are_bounded; records = record_takes_are_bounded; answers = answers_are_bounded; withdrawals = withdrawals_are_bounded }
