use Rattle.svid_check.proofs.RunEventsLemmas.{runs_are_events}
use Rattle.svid_check.proofs.laws.runs_are_events.Goals as goal

pub returns : goal.returns
returns c = runs_are_events
