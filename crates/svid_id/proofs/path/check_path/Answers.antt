use Rattle.std.proofs.Common.{arith, sym, ◌∙◌}
use Rattle.std.proofs.lemmas.Result.{err_from_is_err_and}
use Rattle.svid_id.proofs.PathLemmas.{path_fault-first}
use Rattle.svid_id.proofs.path.check_path.Goals as goal

pub returns-in_err-len : goal.returns-in_err-len
returns-in_err-len c =
    let found = path_fault-first c.loop-text.at _ _ _ _ c.in-Some.ensures.cases.0 c.in_err-len.ensures.fault in
    let p = err_from_is_err_and c.from_residual.result c.from_residual.ensures.1 in
    rw (p.1, p.2) (sym (c.loop-text.invariant.same ∙ found))

pub loop-text-preserved : goal.loop-text-preserved
loop-text-preserved c =
    let passed = path_fault-first c.loop-text.at _ _ _ _ c.in-Some.ensures.cases.0 c.in_ok-len.ensures.fault in
    record {
      same = rw (c.split_at.ensures.back, c.in_ok-len.ensures.len) (c.loop-text.invariant.same ∙ passed);
      within = omega (arith, c.in-Some.ensures.cases.1);
    }
