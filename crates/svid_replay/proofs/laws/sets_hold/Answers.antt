use Rattle.svid_replay.proofs.UsesLemmas.{no_uses_hold_none, with_holds_one_more, union_holds_either, live_holds_unexpired, rising_has_held}
use Rattle.svid_replay.proofs.laws.sets_hold.Goals as goal

pub returns : goal.returns
returns c = record { none = no_uses_hold_none; with = with_holds_one_more; union = union_holds_either; live = live_holds_unexpired; rising = rising_has_held }
