use Rattle.svid_check.proofs.LaterLemmas.{calls_leave_later, later_goes_on, saves_add_nothing, saves_lose_nothing}
use Rattle.svid_check.proofs.SaveEventsLemmas.{events_leave_later}
use Rattle.svid_check.proofs.laws.saves_lose_nothing.Goals as goal

pub returns : goal.returns
returns c = record { pieces = saves_lose_nothing; no_more = saves_add_nothing; calls = calls_leave_later; events = events_leave_later; on = later_goes_on }
