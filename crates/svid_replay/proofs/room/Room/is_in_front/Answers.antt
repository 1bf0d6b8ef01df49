use Rattle.std.proofs.Common.{◌∙◌, arith, sym}
use Rattle.svid_replay.proofs.WalksLemmas.{room_alone, room_in_front}
use Rattle.svid_replay.proofs.room.Room.is_in_front.Goals as goal

pub returns-in-empty : goal.returns-in-empty
returns-in-empty c = λ _ up. room_alone _ c.args.uses.now _ c.as_slice-room.ensures.value c.as_slice-room.ensures.few c.in-empty.len_below

pub returns-then-room-eq-ROOM_USES : goal.returns-then-room-eq-ROOM_USES
returns-then-room-eq-ROOM_USES c = λ less up.
    room_in_front _ c.args.uses.now _ 63 _ _ c.as_slice-room.ensures.value up (omega (arith, c.if-room-eq-ROOM_USES.true)) (sym c.is_less.ensures ∙ less) c.in-len1-up.len_at_least
