use Rattle.svid_replay.proofs.WalksLemmas.{room_extended}
use Rattle.svid_replay.proofs.room.Room.extend.Goals as goal

pub returns : goal.returns
returns c = room_extended _ _ _ _ _ _ _ c.self.invariant.0 c.self.invariant.1 c.self.view_is c.min-count.ensures c.copy_from_slice.ensures.after
