use Rattle.std.proofs.Common.{◌≡◌, replicate}
use Rattle.svid_replay.specs.Uses.{no_uses}
use Rattle.svid_shards.proofs.sharded_uses.empty_shards.Given as goal

abbrev pub invariant-loop : goal.invariant-loop
invariant-loop l = l.shards.items ≡ replicate l.counter no_uses
