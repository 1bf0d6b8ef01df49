use Rattle.std.proofs.Common.{◌≡◌, take}
use Rattle.std.specs.Io.KnownBytes.{Appends}
use Rattle.svid_uses.specs.Texts.{texts_of}
use Rattle.svid_uses.proofs.writing.write_batches.Given as goal

abbrev pub invariant-loop-batch : goal.invariant-loop-batch
invariant-loop-batch g l =
    Appends (g.K.Sink.told l.fn.sink) (g.K.Sink.told l.sink) (texts_of (take l.batch-index l.batches))
    × (g.K.Sink.stops l.sink ≡ g.K.Sink.stops l.fn.sink)
