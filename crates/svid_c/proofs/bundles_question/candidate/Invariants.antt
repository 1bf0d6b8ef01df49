use Rattle.std.proofs.Common.{◌≡◌}
use Rattle.std.specs.List.{slice_get}
use Rattle.svid_keys.specs.Candidates.{candidates_left}
use Rattle.svid_c.proofs.bundles_question.candidate.Given as goal

-- the candidate that is sought is, of those that are left, the one behind so many
abbrev pub invariant-loop-key : goal.invariant-loop-key
invariant-loop-key l =
    (goal.iterator-loop-key).can_next l.key-iterator ×
    (goal.iterator-loop-key).is_finite l.key-iterator ×
    (slice_get (candidates_left l.fn.candidates) l.number ≡ slice_get (candidates_left l.key-iterator) l.left)
