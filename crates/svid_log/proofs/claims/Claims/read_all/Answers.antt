use Rattle.std.proofs.Common.{ap, arith, slice_set}
use Rattle.svid_log.proofs.RowsLemmas.{read_more}
use Rattle.svid_log.proofs.claims.Claims.read_all.Goals as goal

pub loop-i-preserved : goal.loop-i-preserved
loop-i-preserved g c =
    read_more _ _ _ _ _ _ _ _ _ _ _ _ _ _ _ _ c.loop-i-test.true (omega arith) c.loop-i.invariant (ap (λ f. slice_set c.loop-i.fates c.loop-i.i f) c.decided.ensures)
    c.accepts.ensures c.moment.ensures.value c.in-Ok.ensures.fate c.in-Ok.ensures.held c.in-Ok.ensures.beside
