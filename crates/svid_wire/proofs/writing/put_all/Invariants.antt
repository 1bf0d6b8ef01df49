use Rattle.std.proofs.Common.{length, ◌-◌, ◌≤◌, take, ◌≡◌}
use Rattle.std.specs.Io.KnownBytes.{Appends}
use Rattle.svid_wire.proofs.writing.put_all.Given as goal

abbrev pub invariant-loop-written : goal.invariant-loop-written
invariant-loop-written g l =
    (l.written ≤ length l.piece)
    × Appends (g.K.Sink.told l.initial.sink) (g.K.Sink.told l.sink) (take l.written l.piece)
    × (g.K.Sink.stops l.sink ≡ g.K.Sink.stops l.initial.sink)

abbrev pub decreases-loop-written : goal.decreases-loop-written
decreases-loop-written g l = length l.piece - l.written
