use Rattle.std.proofs.Common.{◌∙◌, ap, arith, map}
use Rattle.std.proofs.lemmas.List.{length-map}
use Rattle.svid_replay.specs.Twice.{withdraws}
use Rattle.svid_shards.specs.Shards.{shard}
use Rattle.svid_shards.proofs.ShardsLemmas.{found_is, store_at, withdrawn_bucket}
use Rattle.svid_shards.proofs.sharded_uses.ShardedUsesUseStore.is_withdrawn.Goals as goal

pub returns : goal.returns
returns g c =
    let stores = c.self.inside.shards.items in
    found_is (withdraws c.args.key.now) (map g.S.UseStore.content stores) _ _ _ _ _ _ c.self.invariant c.self.view_is
    (store_at g.S.UseStore.content stores c.shard_of.result _ (omega (arith, length-map stores g.S.UseStore.content, c.self.invariant.long, c.shard_of.ensures.bound)) c.index.ensures ∙ ap (shard (map g.S.UseStore.content stores)) c.shard_of.ensures.value) c.is_withdrawn.ensures (withdrawn_bucket c.args.key.now)
