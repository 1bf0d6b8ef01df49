use Rattle.svid_claims.proofs.CallsLemmas.{answers_are_events, ends_are_events}
use Rattle.svid_claims.proofs.laws.calls_are_events.Goals as goal

pub returns : goal.returns
returns c = record { answers = answers_are_events; ends = ends_are_events }
