use Rattle.std.proofs.Common.{◌≡◌}
use Rattle.svid_keys.specs.Lines.{lines_left}
use Rattle.svid_lines.specs.Candidates.{first_full, first_token}
use Rattle.svid_lines.proofs.candidates.first_token.Given as goal

-- the token is the first line that is not empty of those that are left
abbrev pub invariant-loop-line : goal.invariant-loop-line
invariant-loop-line l =
    (goal.iterator-loop-line).can_next l.line-iterator ×
    (goal.iterator-loop-line).is_finite l.line-iterator ×
    (first_token l.text ≡ first_full (lines_left l.line-iterator))
