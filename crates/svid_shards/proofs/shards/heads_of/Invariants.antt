use Rattle.std.proofs.Common.{◌≡◌, length, map, take}
use Rattle.svid_replay.specs.Walks.{exp_if_any}
use Rattle.svid_shards.specs.Shards.{heads_of}
use Rattle.svid_shards.proofs.shards.heads_of.Given as goal

abbrev pub invariant-loop-i : goal.invariant-loop-i
invariant-loop-i g l = record {
  long : length l.heads ≡ 256;
  filled : take l.i l.heads ≡ take l.i (map exp_if_any (heads_of (map g.S.UseStore.content l.shards) l.after));
}
