use Rattle.std.proofs.Common.{ap, ◌∙◌}
use Rattle.std.proofs.lemmas.Result.{err_from_is_err_and}
use Rattle.svid_keys.specs.Lines.{lines_left}
use Rattle.svid_keys.proofs.TableLemmas.{fault_next, lines_all, lines_more, lines_none}
use Rattle.svid_keys.proofs.table_verifier.read_lines.Goals as goal

pub loop-line-init : goal.loop-line-init
loop-line-init c =
    (tt, tt, lines_none c.args.text.now _ _ c.new-questions.ensures.empty (ap lines_left c.into_iter-line-iterator.ensures.into_iter_gives ∙ c.of-line-items.ensures))

pub returns-in_err-add_line-clause-fault : goal.returns-in_err-add_line-clause-fault
returns-in_err-add_line-clause-fault c =
    let p = err_from_is_err_and c.from_residual.result c.from_residual.ensures.1 in
    rw (p.1, p.2) (fault_next _ _ _ _ _ _ _ c.loop-line.invariant.2 c.in-Some.ensures.steps c.in_err-add_line.ensures.fault)

pub loop-line-preserved : goal.loop-line-preserved
loop-line-preserved c =
    (tt, tt, lines_more _ _ _ _ _ _ _ c.loop-line.invariant.2 c.in-Some.ensures.steps c.in_ok-add_line.ensures.accepted c.in_ok-add_line.ensures.added)

pub returns-clause-value : goal.returns-clause-value
returns-clause-value c = (lines_all _ _ _ _ c.loop-line.invariant.2 c.in-None.ensures.steps.0).1

pub returns-clause-accepted : goal.returns-clause-accepted
returns-clause-accepted c = (lines_all _ _ _ _ c.loop-line.invariant.2 c.in-None.ensures.steps.0).0
