use Rattle.std.proofs.Common.{◌≡◌, ◌+◌, length}
use Rattle.svid_id.specs.Path.{path_fault}
use Rattle.svid_id.proofs.path.check_path.Given as goal

abbrev pub invariant-loop-text : goal.invariant-loop-text
invariant-loop-text l = record {
  same : path_fault l.fn.offset l.fn.path ≡ path_fault l.at l.rest;
  within : l.at + length l.rest ≡ l.fn.offset + length l.fn.path;
}

abbrev pub decreases-loop-text : goal.decreases-loop-text
decreases-loop-text l = length l.rest
