use Rattle.svid_answers.proofs.CallsAloneLemmas.{begins_are_events, comes_are_events, hears_are_events, joins_are_events, judges_are_events, none_is_claimed}
use Rattle.svid_answers.proofs.laws.calls_are_events_alone.Goals as goal

pub returns : goal.returns
returns c = record {
  judges = judges_are_events;
  hears = hears_are_events;
  comes = comes_are_events;
  joins = joins_are_events;
  begins = begins_are_events;
  none_claimed = none_is_claimed;
}
