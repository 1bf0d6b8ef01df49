use Rattle.svid_check.proofs.EventsLemmas.{pieces_are_events, withdrawals_are_events, answers_are_events, checks_are_events, sends_are_events, sums_are_events, takes_are_events, ticks_are_events, renewals_are_events, saves_are_events}
use Rattle.svid_check.proofs.WholeEventsLemmas.{record_takes_are_events}
use Rattle.svid_check.proofs.laws.calls_are_events.Goals as goal

pub returns : goal.returns
returns c = record { checks = checks_are_events; ticks = ticks_are_events; takes = takes_are_events; records = record_takes_are_events; answers = answers_are_events; sends = sends_are_events; sums = sums_are_events; withdrawals = withdrawals_are_events; renewals = renewals_are_events; saves = saves_are_events; pieces = pieces_are_events }
