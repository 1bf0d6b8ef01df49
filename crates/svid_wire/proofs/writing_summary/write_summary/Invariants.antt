use Rattle.std.proofs.Common.{◌≡◌, ◌+◌, ◌*◌, List, ℕ, ◌++◌, length, take}
use Rattle.std.specs.Io.KnownBytes.{Appends}
use Rattle.std.specs.List.{flat_map}
use Rattle.svid_replay.specs.Summary.{SummaryData}
use Rattle.svid_wire.specs.SummaryText.{summary_head, digest_text}
use Rattle.svid_wire.proofs.writing_summary.write_summary.Given as goal

-- the head, and then so many digests
abbrev pub sent : SummaryData → ℕ → List ℕ
sent s count = summary_head s.moment ++ flat_map digest_text (take count s.digests)

abbrev pub invariant-loop-digest : goal.invariant-loop-digest
invariant-loop-digest g l =
    (l.written ≡ 13 + 32 * l.digest-index)
    × (length (sent l.summary l.digest-index) ≡ l.written)
    × Appends (g.K.Sink.told l.fn.sink) (g.K.Sink.told l.sink) (sent l.summary l.digest-index)
    × (g.K.Sink.stops l.sink ≡ g.K.Sink.stops l.fn.sink)
