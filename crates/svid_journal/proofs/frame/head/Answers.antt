use Rattle.std.proofs.Common.{arith}
use Rattle.svid_journal.specs.Titles.{bytes_of}
use Rattle.svid_journal.proofs.FramesLemmas.{pieces_fill}
use Rattle.svid_journal.proofs.frame.head.Goals as goal

pub returns : goal.returns
returns c =
    pieces_fill c.args.format (bytes_of c.args.title.now) c.numbers-numbers.result c.args.payload.now c.digest-digest.result c.split_at.result.0.now c.put_piece.new.head c.put_piece-2.new.head c.args.number c.numbers-numbers.ensures c.digest-digest.ensures c.split_at.ensures.front c.put_piece.ensures c.put_piece-2.ensures (omega arith)
