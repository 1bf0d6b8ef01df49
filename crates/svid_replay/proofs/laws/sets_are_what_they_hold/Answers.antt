use Rattle.svid_replay.proofs.UsesLemmas.{same_held_same_set}
use Rattle.svid_replay.proofs.laws.sets_are_what_they_hold.Goals as goal

pub returns : goal.returns
returns c = same_held_same_set
