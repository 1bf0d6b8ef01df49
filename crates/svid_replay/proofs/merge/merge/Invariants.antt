use Rattle.std.proofs.Common.{◌≡◌, true, length, drop, ◌++◌, ◌-◌, ◌≤◌, ◌+◌}
use Rattle.std.specs.Set.{sorted_merge}
use Rattle.svid_replay.proofs.merge.merge.Given as goal

abbrev pub invariant-loop-i : goal.invariant-loop-i
invariant-loop-i g l = record {
  a_bound : l.i ≤ length l.a;
  b_bound : l.j ≤ length l.b;
  left : l.merged.items ++ sorted_merge g.T.Ord.cmp true (drop l.i l.a) (drop l.j l.b) ≡ sorted_merge g.T.Ord.cmp true l.a l.b;
}

abbrev pub decreases-loop-i : goal.decreases-loop-i
decreases-loop-i g l = (length l.a - l.i) + (length l.b - l.j)
