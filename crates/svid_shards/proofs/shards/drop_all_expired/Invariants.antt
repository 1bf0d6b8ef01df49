use Rattle.std.proofs.Common.{map}
use Rattle.svid_shards.proofs.ShardsLemmas.{IsSwept}
use Rattle.svid_shards.proofs.shards.drop_all_expired.Given as goal

-- the first stores are swept
abbrev pub invariant-loop-i : goal.invariant-loop-i
invariant-loop-i g l = IsSwept l.moment (map g.S.UseStore.content l.initial.shards.items) (map g.S.UseStore.content l.shards.items) l.i l.dropped
