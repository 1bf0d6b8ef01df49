use Rattle.std.proofs.Common.{rules}
use Rattle.svid_replay.proofs.RunsLemmas.{runs_none}
use Rattle.svid_replay.proofs.run_uses.RunUses.empty.Goals as goal

pub invariant_of-result : goal.invariant_of-result
invariant_of-result c = rw c.new.ensures.items runs_none
