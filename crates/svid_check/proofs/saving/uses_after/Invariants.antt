use Rattle.std.proofs.Common.{◌≡◌, ◌-◌, ◌≤◌, ◌++◌, length}
use Rattle.svid_replay.specs.Walks.{uses_behind}
use Rattle.svid_check.proofs.saving.uses_after.Given as goal

-- the uses that were put away, and those that are left, are the uses behind the one given
abbrev pub invariant-loop-walk : goal.invariant-loop-walk
invariant-loop-walk g l = record {
  parts : l.uses.items ++ l.walk ≡ uses_behind l.replay.uses l.fn.after;
  few : length l.uses.items ≤ l.most;
}

abbrev pub decreases-loop-walk : goal.decreases-loop-walk
decreases-loop-walk g l = l.most - length l.uses.items
