use Rattle.svid_check.proofs.SaveEventsLemmas.{pieces_are_saved, restarts_from_pieces}
use Rattle.svid_check.proofs.laws.pieces_are_saves.Goals as goal

pub returns : goal.returns
returns c = record { saved = pieces_are_saved; restarts = restarts_from_pieces }
