use Rattle.std.proofs.Common.{◌≡◌, ◌≤◌, ◌++◌, length}
use Rattle.std.specs.List.{filter}
use Rattle.svid_replay.specs.Batches.{is_after}
use Rattle.svid_replay.specs.Sets.{rising}
use Rattle.svid_replay.proofs.store.UseStore.next_uses.Given as goal

-- the room has the uses before those that are left
abbrev pub invariant-loop-used : goal.invariant-loop-used
invariant-loop-used g l = let us = rising (g.Self.UseStore.content l.self) in record {
  few : length l.room ≤ 64;
  parts : l.room ++ filter (is_after l.last) us ≡ filter (is_after l.fn.after) us;
}

abbrev pub decreases-loop-used : goal.decreases-loop-used
decreases-loop-used g l = length (filter (is_after l.last) (rising (g.Self.UseStore.content l.self)))
