use Rattle.std.proofs.Common.{arith, map}
use Rattle.std.proofs.lemmas.List.{length-map}
use Rattle.svid_shards.proofs.ShardsLemmas.{swept_more}
use Rattle.svid_shards.proofs.shards.drop_all_expired.Goals as goal

pub overflow_add-dropped : goal.overflow_add-dropped
overflow_add-dropped g c =
    let more = swept_more g.S.UseStore.content c.loop-i.shards.items (map g.S.UseStore.content c.args.shards.now.items) c.args.moment c.loop-i.i c.loop-i.dropped c.drop_expired-dropped.result.dropped _ _ c.loop-i.invariant (omega (arith, length-map c.args.shards.now.items g.S.UseStore.content)) c.index_mut-store.ensures.value c.drop_expired-dropped.ensures.kept c.drop_expired-dropped.ensures.dropped in
    omega (arith, more.counted, c.requires)

pub loop-i-preserved : goal.loop-i-preserved
loop-i-preserved g c =
    swept_more g.S.UseStore.content c.loop-i.shards.items (map g.S.UseStore.content c.args.shards.now.items) c.args.moment c.loop-i.i c.loop-i.dropped c.drop_expired-dropped.result.dropped _ _ c.loop-i.invariant (omega (arith, length-map c.args.shards.now.items g.S.UseStore.content)) c.index_mut-store.ensures.value c.drop_expired-dropped.ensures.kept c.drop_expired-dropped.ensures.dropped
