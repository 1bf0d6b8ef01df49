use Rattle.std.proofs.Common.{◌≡◌, length, map}
use Rattle.svid_shards.proofs.shards.compact_some.Given as goal

abbrev pub invariant-loop-i : goal.invariant-loop-i
invariant-loop-i g l = record {
  long : length l.shards.items ≡ 256;
  same : map g.S.UseStore.content l.shards.items ≡ map g.S.UseStore.content l.initial.shards.items;
}
