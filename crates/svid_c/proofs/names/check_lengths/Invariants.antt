use Rattle.std.proofs.Common.{◌≡◌, ◌+◌, take}
use Rattle.std.specs.List.{sum}
use Rattle.svid_c.proofs.names.check_lengths.Given as goal

-- what is left is the length without the lengths so far
abbrev pub invariant-loop-one : goal.invariant-loop-one
invariant-loop-one l = l.left + sum (take l.one-index l.lens) ≡ l.len
