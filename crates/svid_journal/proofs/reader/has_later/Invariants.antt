use Rattle.std.proofs.Common.{◌≡◌, ℕ, ◌+◌, ◌*◌, ◌<◌, length, drop}
use Rattle.svid_journal.specs.Titles.{bytes_of}
use Rattle.svid_journal.specs.Reading.{BeginsLater}
use Rattle.svid_journal.proofs.reader.has_later.Given as goal

abbrev pub invariant-loop-rest : goal.invariant-loop-rest
invariant-loop-rest l = record {
  there : l.rest ≡ drop (8 * l.cell) l.fn.bytes;
  count : 8 * l.cell + length l.rest ≡ length l.fn.bytes;
  none : (k : ℕ) → k < l.cell → BeginsLater (bytes_of l.title) l.number k (drop (8 * k) l.fn.bytes) → ⊥;
}

abbrev pub decreases-loop-rest : goal.decreases-loop-rest
decreases-loop-rest l = length l.rest
