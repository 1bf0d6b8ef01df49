use Rattle.std.proofs.Common.{take}
use Rattle.std.specs.List.{AllByRecursion}
use Rattle.svid_uses.specs.Time.{IsTellable}
use Rattle.svid_uses.proofs.batching.first_expired.Given as goal

abbrev pub invariant-loop-index : goal.invariant-loop-index
invariant-loop-index l = AllByRecursion IsTellable (take l.index l.uses)
