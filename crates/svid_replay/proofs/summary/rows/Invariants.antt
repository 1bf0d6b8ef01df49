use Rattle.std.proofs.Common.{take}
use Rattle.std.specs.List.{AllByRecursion}
use Rattle.svid_replay.specs.Use.{IsBytes}
use Rattle.svid_replay.proofs.summary.rows.Given as goal

abbrev pub invariant-loop-digest : goal.invariant-loop-digest
invariant-loop-digest l = AllByRecursion (IsBytes 32) (take l.digest-index l.digests)
