use Rattle.std.proofs.Common.{◌≡◌, ◌++◌, drop, take}
use Rattle.svid_c.specs.Log.{fates_seen}
use Rattle.svid_c.proofs.validator_read.put_fates.Given as goal

-- so many uses were written with their fates
abbrev pub invariant-loop-i : goal.invariant-loop-i
invariant-loop-i l = l.out ≡ fates_seen (take l.i l.uses) l.fates ++ drop l.i l.fn.out
