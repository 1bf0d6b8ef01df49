use Rattle.svid_check.proofs.RunsLemmas.{withdrawals_are_steps, checks_are_steps, record_takes_are_steps, takes_are_steps, ticks_are_steps}
use Rattle.svid_check.proofs.laws.calls_are_steps.Goals as goal

pub returns : goal.returns
returns c = record { checks = checks_are_steps; ticks = ticks_are_steps; takes = takes_are_steps; records = record_takes_are_steps; withdrawals = withdrawals_are_steps }
