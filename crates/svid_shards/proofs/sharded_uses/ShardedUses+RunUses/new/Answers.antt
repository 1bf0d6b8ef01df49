use Rattle.std.proofs.Common.{◌∙◌}
use Rattle.svid_shards.proofs.ShardsLemmas.{none_is, none_view, same_stores}
use Rattle.svid_shards.proofs.sharded_uses.«ShardedUses+RunUses».new.Goals as goal

pub invariant_of-result : goal.invariant_of-result
invariant_of-result c = none_is _ (same_stores _ ∙ c.in_ok-shards.ensures)

pub returns : goal.returns
returns c = none_view _ (same_stores _ ∙ c.in_ok-shards.ensures)
