use Rattle.std.proofs.Common.{◌∙◌, ap, arith, map}
use Rattle.std.proofs.lemmas.List.{length-map}
use Rattle.svid_replay.specs.Buckets.{bucket}
use Rattle.svid_shards.proofs.ShardsLemmas.{shard_is_bucket, store_at}
use Rattle.svid_shards.proofs.sharded_uses.ShardedUses.bucket.Goals as goal

pub returns : goal.returns
returns g c =
    let stores = c.self.inside.shards.items in
    store_at g.S.UseStore.content stores c.args.byte _ (omega (arith, length-map stores g.S.UseStore.content, c.self.invariant.long)) c.index.ensures
    ∙ shard_is_bucket (map g.S.UseStore.content stores) c.self.invariant.apart c.args.byte ∙ ap (bucket c.args.byte) c.self.view_is
