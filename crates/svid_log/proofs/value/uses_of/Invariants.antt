use Rattle.std.proofs.Common.{length}
use Rattle.svid_log.proofs.ValuesLemmas.{IsReadTo}
use Rattle.svid_log.proofs.value.uses_of.Given as goal

abbrev pub invariant-loop-rest : goal.invariant-loop-rest
invariant-loop-rest l = IsReadTo l.value l.rest l.feed l.uses.items

abbrev pub decreases-loop-rest : goal.decreases-loop-rest
decreases-loop-rest l = length l.rest
