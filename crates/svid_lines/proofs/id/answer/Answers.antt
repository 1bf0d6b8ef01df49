use Rattle.std.proofs.Common.{◌∙◌}
use Rattle.svid_id.proofs.IdLemmas.{refused_fault}
use Rattle.svid_lines.proofs.IdLemmas.{answer-IsId, answer-fault}
use Rattle.svid_lines.proofs.id.answer.Goals as goal

pub returns-in_ok-parts_lines-in-Ok : goal.returns-in_ok-parts_lines-in-Ok
returns-in_ok-parts_lines-in-Ok c =
    let found = answer-IsId _ _ c.in-Ok.ensures.ok in
    (found.0, c.in_ok-parts_lines-in-Ok.ensures ∙ found.1)

pub returns-in_ok-refused_line-in-Err : goal.returns-in_ok-refused_line-in-Err
returns-in_ok-refused_line-in-Err c =
    let line = c.in_ok-refused_line-in-Err.ensures in
    let found = answer-fault _ _ (refused_fault c.args.text.now _ c.in-Err.ensures.fault line.0) in
    (found.0, line.1 ∙ found.1)
