use Rattle.svid_log.specs.Steps.{horizon}
use Rattle.svid_log.proofs.RowsLemmas.{IsReadTo}
use Rattle.svid_log.proofs.claims.Claims.read_all.Given as goal

abbrev pub invariant-loop-i : goal.invariant-loop-i
invariant-loop-i g l = IsReadTo l.standing l.now (horizon l.now l.ahead) (record { held = l.fn.held; beside = l.fn.self }) (record { held = l.held; beside = l.self }) l.uses l.fn.fates l.fates l.i
