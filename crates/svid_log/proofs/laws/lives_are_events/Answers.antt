use Rattle.svid_log.proofs.SavesLemmas.{looks_are_events, new_are_events, restarts_are_events}
use Rattle.svid_log.proofs.laws.lives_are_events.Goals as goal

pub returns : goal.returns
returns c = record { new = new_are_events; restart = restarts_are_events; look = looks_are_events }
