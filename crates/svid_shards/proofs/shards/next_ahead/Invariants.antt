use Rattle.std.proofs.Common.{◌≡◌, ◌≤◌, ◌-◌, ◌++◌, length, map, true}
use Rattle.std.specs.List.{filter}
use Rattle.svid_replay.specs.Batches.{is_after, last_of}
use Rattle.svid_replay.specs.Sets.{rising}
use Rattle.svid_replay.specs.Walks.{exp_if_any}
use Rattle.svid_shards.specs.Shards.{all_in, heads_of}
use Rattle.svid_shards.proofs.shards.next_ahead.Given as goal

-- the room has the uses before those that are left, and the expiry of the next use in each shard is known
abbrev pub invariant-loop-used : goal.invariant-loop-used
invariant-loop-used g l = let ss = map g.S.UseStore.content l.shards in record {
  known : l.ahead.known ≡ true;
  heads : l.ahead.heads ≡ map exp_if_any (heads_of ss l.ahead.after);
  few : length l.room ≤ 64;
  parts : l.room ++ filter (is_after l.ahead.after) (rising (all_in ss)) ≡ filter (is_after l.fn.ahead.after) (rising (all_in ss));
  after : l.ahead.after ≡ last_of l.fn.ahead.after l.room;
}

abbrev pub decreases-loop-used : goal.decreases-loop-used
decreases-loop-used g l = 64 - length l.room
