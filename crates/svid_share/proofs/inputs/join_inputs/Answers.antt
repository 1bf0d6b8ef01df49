use Rattle.std.proofs.Common.{arith}
use Rattle.std.proofs.lemmas.Result.{err_from_is_err_and}
use Rattle.svid_share.proofs.InputsLemmas.{joined_none, joined_more, joined_all, refused_at}
use Rattle.svid_share.proofs.inputs.join_inputs.Goals as goal

pub returns-in_err-join_input-clause-fault : goal.returns-in_err-join_input-clause-fault
returns-in_err-join_input-clause-fault g c =
    let p = err_from_is_err_and c.from_residual.result c.from_residual.ensures.1 in
    rw (p.1, p.2) (refused_at _ _ _ _ _ _ _ _ _ _ c.loop-index-test.true (omega arith) c.loop-index.invariant c.in_err-join_input.ensures.fault)

pub loop-index-init : goal.loop-index-init
loop-index-init g c = joined_none _ _ _ _

pub loop-index-preserved : goal.loop-index-preserved
loop-index-preserved g c = joined_more _ _ _ _ _ _ _ _ _ _ c.loop-index-test.true (omega arith) c.loop-index.invariant c.in_ok-join_input.ensures.ok

pub returns-clause-ok : goal.returns-clause-ok
returns-clause-ok g c = joined_all _ _ _ _ _ _ _ c.loop-index-test.false (omega arith) c.loop-index.invariant
