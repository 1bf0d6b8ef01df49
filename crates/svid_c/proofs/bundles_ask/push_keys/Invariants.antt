use Rattle.std.proofs.Common.{◌≡◌, ◌++◌, length, take}
use Rattle.std.specs.Prelude.{nat_lt}
use Rattle.std.specs.List.{flat_map}
use Rattle.svid_keys.specs.Candidates.{candidates_left}
use Rattle.svid_c.specs.Trust.{key_row}
use Rattle.svid_c.proofs.bundles_ask.push_keys.Given as goal

-- all that is due is what there is so far, and then the rows of the candidates that are left, so many at the most; and there are more
-- where more are left
abbrev pub invariant-loop-key : goal.invariant-loop-key
invariant-loop-key l =
    (goal.iterator-loop-key).can_next l.key-iterator ×
    (goal.iterator-loop-key).is_finite l.key-iterator ×
    (l.initial.rows.items ++ flat_map (key_row l.alg) (take l.most (candidates_left l.fn.candidates))
    ≡ l.rows.items ++ flat_map (key_row l.alg) (take l.left (candidates_left l.key-iterator))) ×
    (nat_lt l.most (length (candidates_left l.fn.candidates)) ≡ nat_lt l.left (length (candidates_left l.key-iterator)))
