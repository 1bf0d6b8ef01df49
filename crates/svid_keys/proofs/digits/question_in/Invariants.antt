use Rattle.std.proofs.Common.{◌≡◌, ◌*◌, length, take, drop}
use Rattle.hex.specs.Hex.{decode_pairs}
use Rattle.hex.proofs.Pairs.{prepend}
use Rattle.svid_keys.proofs.digits.question_in.Given as goal

-- the bytes so far, and then those of the digits that are left
abbrev pub invariant-bytes : goal.invariant-bytes
invariant-bytes l = (length l.question ≡ 32)
    × (decode_pairs 0 l.line ≡ prepend (take l.i l.question) (decode_pairs (2 * l.i) (drop (2 * l.i) l.line)))
