use Rattle.svid_shards.proofs.ShardsLemmas.{total_is}
use Rattle.svid_shards.proofs.sharded_uses.ShardedUsesUseStore.len.Goals as goal

pub returns : goal.returns
returns g c = total_is _ _ _ _ c.self.invariant c.self.view_is
