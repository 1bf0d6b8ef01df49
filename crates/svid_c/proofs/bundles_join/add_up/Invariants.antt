use Rattle.std.proofs.Common.{◌≡◌, ◌+◌, take}
use Rattle.std.specs.List.{sum_by}
use Rattle.svid_c.specs.Documents.{length_of}
use Rattle.svid_c.proofs.bundles_join.add_up.Given as goal

-- what is left is the length without the lengths so far
abbrev pub invariant-loop-one : goal.invariant-loop-one
invariant-loop-one l = l.left + sum_by length_of (take l.one-index l.documents) ≡ l.len
