use Rattle.std.proofs.Common.{◌≡◌, ◌++◌}
use Rattle.std.specs.List.{flat_map}
use Rattle.std.specs.String.{string_bytes}
use Rattle.svid_keys.specs.Candidates.{candidates_left}
use Rattle.svid_check.specs.Said.{said_in}
use Rattle.svid_lines.specs.Candidates.{candidate_line}
use Rattle.svid_lines.proofs.candidates.candidate_lines.Given as goal

-- the lines so far, and then those of the candidates that are left
abbrev pub invariant-loop-key : goal.invariant-loop-key
invariant-loop-key l =
    (goal.iterator-loop-key).can_next l.key-iterator ×
    (goal.iterator-loop-key).is_finite l.key-iterator ×
    (flat_map (candidate_line (said_in l.reading)) (candidates_left l.fn.candidates) ≡ string_bytes l.text ++ flat_map (candidate_line (said_in l.reading)) (candidates_left l.key-iterator))
