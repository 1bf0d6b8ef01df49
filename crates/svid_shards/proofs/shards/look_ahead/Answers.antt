use Rattle.std.proofs.Common.{arith, map}
use Rattle.std.proofs.lemmas.List.{length-map}
use Rattle.svid_shards.proofs.ShardsLemmas.{known_heads}
use Rattle.svid_shards.proofs.shards.look_ahead.Goals as goal

pub returns-else-not-ahead-clause-heads : goal.returns-else-not-ahead-clause-heads
returns-else-not-ahead-clause-heads g c =
    let ss = map g.S.UseStore.content c.args.shards.now in
    known_heads ss c.args.ahead.now c.requires.apart (omega (arith, c.requires.long, length-map c.args.shards.now g.S.UseStore.content)) c.requires.ahead c.if-not-ahead.false
