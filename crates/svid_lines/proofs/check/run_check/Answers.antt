use Rattle.std.proofs.lemmas.Result.{err_from_is_err_and}
use Rattle.svid_lines.proofs.CheckLemmas.{inputs_refused}
use Rattle.svid_lines.proofs.check.run_check.Goals as goal

pub returns-in_err-outcome-clause-fault : goal.returns-in_err-outcome-clause-fault
returns-in_err-outcome-clause-fault g c =
    let p = err_from_is_err_and c.from_residual.result c.from_residual.ensures.1 in
    rw (p.1, p.2) (inputs_refused c.args.given _ _ _ c.in_err-outcome.ensures.fault)
