use Rattle.std.proofs.Common.{◌≡◌, ◌+◌, ◌*◌, ◌≤◌, length, drop}
use Rattle.svid_journal.specs.Reading.{crowd}
use Rattle.svid_journal.proofs.reader.is_crowded.Given as goal

abbrev pub invariant-loop-behind : goal.invariant-loop-behind
invariant-loop-behind l = record {
  there : l.behind ≡ drop (8 * l.before) l.fn.bytes;
  count : 8 * l.before + length l.behind ≡ length l.fn.bytes;
  sum : l.cells ≡ crowd l.number l.fn.bytes l.before;
  few : l.cells ≤ length l.fn.bytes;
}

abbrev pub decreases-loop-behind : goal.decreases-loop-behind
decreases-loop-behind l = length l.behind
