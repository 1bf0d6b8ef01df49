use Rattle.std.proofs.Common.{◌≡◌, true, length, drop, ◌++◌, ◌-◌, ◌≤◌, ◌+◌}
use Rattle.std.specs.Set.{sorted_merge}
use Rattle.svid_replay.specs.Use.{use_cmp}
use Rattle.svid_replay.proofs.room.fill_merged.Given as goal

abbrev pub invariant-loop-i : goal.invariant-loop-i
invariant-loop-i l = record {
  a_bound : l.i ≤ length l.a;
  b_bound : l.j ≤ length l.b;
  few : length l.room ≤ 64;
  left : l.room ++ sorted_merge use_cmp true (drop l.i l.a) (drop l.j l.b) ≡ sorted_merge use_cmp true l.a l.b;
}

abbrev pub decreases-loop-i : goal.decreases-loop-i
decreases-loop-i l = (length l.a - l.i) + (length l.b - l.j)
