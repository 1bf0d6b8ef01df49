use Rattle.std.proofs.Common.{◌≡◌}
use Rattle.svid_replay.proofs.stale.list_of.Given as goal

abbrev pub invariant-loop-used : goal.invariant-loop-used
invariant-loop-used g l = l.uses.items ≡ l.yielded
