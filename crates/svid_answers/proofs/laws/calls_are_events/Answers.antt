use Rattle.svid_answers.proofs.CallsLemmas.{begins_are_events, comes_are_events, hears_are_events, joins_are_events, judges_are_events, stores_keep_members}
use Rattle.svid_answers.proofs.LooksLemmas.{finds_are_events}
use Rattle.svid_answers.proofs.laws.calls_are_events.Goals as goal

pub returns : goal.returns
returns g c = record {
  finds = finds_are_events _;
  judges = judges_are_events;
  hears = hears_are_events;
  comes = comes_are_events;
  joins = joins_are_events;
  begins = begins_are_events;
  stores = stores_keep_members;
}
