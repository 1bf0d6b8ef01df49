use Rattle.svid_group.proofs.LaterLemmas.{events_leave_later}
use Rattle.svid_group.proofs.laws.records_go_on.Goals as goal

pub returns : goal.returns
returns c = events_leave_later
