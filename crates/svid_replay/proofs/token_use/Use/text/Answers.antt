use Rattle.std.proofs.Common.{arith, refl}
use Rattle.svid_replay.proofs.UseLemmas.{pieces_fill}
use Rattle.svid_replay.proofs.token_use.Use.text.Goals as goal

pub returns : goal.returns
returns c =
    pieces_fill _ _ _ _ _ _ _ _ _ _ c.args.self.now c.to_be_bytes.ensures refl refl c.to_be_bytes-2.ensures c.from.ensures (omega arith) (omega arith) c.put_piece.ensures c.put_piece-2.ensures c.put_piece-3.ensures c.put_piece-4.ensures c.put_piece-5.ensures c.put_piece-5.array_long
