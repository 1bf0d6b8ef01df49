use Rattle.std.proofs.Common.{◌≡◌, ◌-◌, ◌≤◌, vec_len}
use Rattle.std.specs.Io.KnownBytes.{Consumes}
use Rattle.svid_wire.proofs.reading.read_up_to.Given as goal

abbrev pub invariant-loop-given : goal.invariant-loop-given
invariant-loop-given g l =
    (vec_len l.bytes ≤ l.limit)
    × Consumes (g.S.Source.left l.initial.source) (g.S.Source.left l.source) l.bytes.items
    × (g.S.Source.stops l.source ≡ g.S.Source.stops l.initial.source)

abbrev pub decreases-loop-given : goal.decreases-loop-given
decreases-loop-given g l = l.limit - vec_len l.bytes
