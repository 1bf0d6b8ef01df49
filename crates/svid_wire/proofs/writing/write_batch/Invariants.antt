use Rattle.std.proofs.Common.{◌≡◌, ◌+◌, ◌*◌, List, ℕ, ◌++◌, length, take}
use Rattle.std.specs.Io.KnownBytes.{Appends}
use Rattle.std.specs.List.{flat_map}
use Rattle.svid_replay.specs.Use.{text_of}
use Rattle.svid_replay.specs.Batches.{BatchData}
use Rattle.svid_wire.specs.BatchText.{head_text}
use Rattle.svid_wire.specs.declared.version.Version.TheVariants.{Two}
use Rattle.svid_wire.proofs.writing.write_batch.Given as goal

-- the head, and then the text of so many uses
abbrev pub sent : BatchData → ℕ → List ℕ
sent b count = head_text Two b.moment (length b.uses) ++ flat_map text_of (take count b.uses)

abbrev pub invariant-loop-used : goal.invariant-loop-used
invariant-loop-used g l =
    (l.written ≡ 17 + 65 * l.used-index)
    × (length (sent l.batch l.used-index) ≡ l.written)
    × Appends (g.K.Sink.told l.fn.sink) (g.K.Sink.told l.sink) (sent l.batch l.used-index)
    × (g.K.Sink.stops l.sink ≡ g.K.Sink.stops l.fn.sink)
