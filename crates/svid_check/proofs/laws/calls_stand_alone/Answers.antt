use Rattle.svid_check.proofs.EventsLemmas.{record_takes_are_calls, withdrawals_are_calls, answers_are_calls, checks_are_calls, takes_are_calls, ticks_are_calls}
use Rattle.svid_check.proofs.laws.calls_stand_alone.Goals as goal

pub returns : goal.returns
returns c = record { checks = checks_are_calls; ticks = ticks_are_calls; takes = takes_are_calls; records = record_takes_are_calls; answers = answers_are_calls; withdrawals = withdrawals_are_calls }
