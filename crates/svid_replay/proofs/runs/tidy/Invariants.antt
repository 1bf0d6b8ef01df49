use Rattle.std.proofs.Common.{◌≡◌}
use Rattle.svid_replay.proofs.runs.tidy.Given as goal

abbrev pub invariant-loop-i : goal.invariant-loop-i
invariant-loop-i l = l.runs.items ≡ l.initial.runs.items
