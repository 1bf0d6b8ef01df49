use Rattle.std.proofs.Common.{◌∙◌, rules}
use Rattle.svid_shards.proofs.ShardsLemmas.{store_same}
use Rattle.svid_shards.proofs.shards.compact_some.Goals as goal

pub loop-i-preserved : goal.loop-i-preserved
loop-i-preserved g c = record {
  long = search rules;
  same = store_same g.S.UseStore.content c.loop-i.shards.items _ _ _ c.index_mut-store.ensures.value c.compact.ensures ∙ c.loop-i.invariant.same;
}
