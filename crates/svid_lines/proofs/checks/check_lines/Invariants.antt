use Rattle.std.proofs.Common.{◌≡◌, ◌++◌, ◌&&◌}
use Rattle.std.specs.String.{string_bytes}
use Rattle.svid_keys.specs.Lines.{lines_left, lines_of}
use Rattle.svid_check.specs.Setting.{setting_of, with_state}
use Rattle.svid_lines.specs.Checks.{are_accepted, judgement_lines, judgements, record_after, tokens_of}
use Rattle.svid_lines.proofs.checks.check_lines.Given as goal

-- what is due to all lines is what came so far, and then what is due to those that are left
abbrev pub invariant-loop-line : goal.invariant-loop-line
invariant-loop-line g l =
    let s = setting_of g.V.Verifier.says l.fn.validator in
    let all = tokens_of (lines_of l.tokens) in
    let left = tokens_of (lines_left l.line-iterator) in
    (goal.iterator-loop-line g).can_next l.line-iterator ×
    (goal.iterator-loop-line g).is_finite l.line-iterator ×
    (l.validator ≡ with_state l.fn.validator l.validator.state) ×
    (record_after s l.now l.fn.validator.state all ≡ record_after s l.now l.validator.state left) ×
    (judgement_lines (judgements s l.now l.fn.validator.state all) ≡ string_bytes l.text ++ judgement_lines (judgements s l.now l.validator.state left)) ×
    (are_accepted (judgements s l.now l.fn.validator.state all) ≡ (l.accepted && are_accepted (judgements s l.now l.validator.state left)))
