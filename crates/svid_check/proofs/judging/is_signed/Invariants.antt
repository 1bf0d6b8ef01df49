use Rattle.std.proofs.Common.{◌≡◌}
use Rattle.std.specs.List.{list_any}
use Rattle.svid_keys.specs.Candidates.{candidates_left}
use Rattle.svid_check.specs.Said.{said_in}
use Rattle.svid_check.specs.Setting.{given_setting}
use Rattle.svid_check.specs.Verdict.{is_signed}
use Rattle.svid_check.proofs.judging.is_signed.Given as goal

-- a candidate that is left made the signature exactly if one of all did
abbrev pub invariant-loop-key : goal.invariant-loop-key
invariant-loop-key g l =
    (goal.iterator-loop-key g).can_next l.key-iterator ×
    (goal.iterator-loop-key g).is_finite l.key-iterator ×
    (list_any (λ key. g.V.Verifier.says l.verifier key l.reading.header.alg l.reading.input.items l.reading.signature.items) (candidates_left l.key-iterator) ≡ is_signed (given_setting (g.V.Verifier.says l.verifier) l.given) (said_in l.reading))
