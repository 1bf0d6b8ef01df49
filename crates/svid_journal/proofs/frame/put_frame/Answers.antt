use Rattle.std.proofs.Common.{arith, ◌∙◌, ap}
use Rattle.svid_journal.specs.Titles.{bytes_of}
use Rattle.svid_journal.specs.Frames.{filler}
use Rattle.svid_journal.proofs.FramesLemmas.{frame_put}
use Rattle.svid_journal.proofs.frame.put_frame.Goals as goal

pub returns : goal.returns
returns c =
    frame_put 2 (bytes_of c.args.title.now) c.args.number c.args.payload.now c.head.result c.filler.result.now c.args.room.now c.put_at.new.room c.put_at-2.new.room c.put_at-3.new.room _ c.head.ensures (c.filler.ensures ∙ ap filler c.gap.ensures.value) (omega arith) c.put_at.ensures.put c.put_at-2.ensures.put c.put_at-3.ensures.put
