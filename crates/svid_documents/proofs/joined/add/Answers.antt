use Rattle.std.proofs.Common.{arith}
use Rattle.std.proofs.lemmas.Result.{err_from_is_err_and}
use Rattle.svid_documents.proofs.JoinLemmas.{adding_all, adding_counts, adding_fault, adding_none, adding_one}
use Rattle.svid_documents.proofs.joined.add.Goals as goal

pub loop-name-init : goal.loop-name-init
loop-name-init c =
    let gives = c.into_iter-name-iterator.ensures.into_iter_gives in
    (tt, tt, adding_none _ _ _ gives.0 gives.1)

pub loop-name-preserved : goal.loop-name-preserved
loop-name-preserved c = (
  tt,
  tt,
  adding_one _ _ _ _ _ _ _ _ _ _ c.loop-name.invariant.2 c.in-Some.ensures.steps c.as_str.ensures.value c.in_ok-insert.ensures c.in_ok-check.ensures.next,
)

pub overflow_add-index : goal.overflow_add-index
overflow_add-index c = omega (arith, adding_counts _ _ _ _ _ _ _ _ c.loop-name.invariant.2 c.in-Some.ensures.steps)

pub returns-clause-ok : goal.returns-clause-ok
returns-clause-ok c = adding_all _ _ _ _ _ c.loop-name.invariant.2 c.in-None.ensures.steps.0

pub returns-in_err-check-clause-fault : goal.returns-in_err-check-clause-fault
returns-in_err-check-clause-fault c =
    let p = err_from_is_err_and c.from_residual.result c.from_residual.ensures.1 in
    rw (p.1, p.2) (adding_fault _ _ _ _ _ _ _ _ _ _ c.loop-name.invariant.2 c.in-Some.ensures.steps c.as_str.ensures.value c.in_err-check.ensures.fault)
