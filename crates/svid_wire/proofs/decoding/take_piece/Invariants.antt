use Rattle.std.proofs.Common.{◌++◌, length}
use Rattle.svid_wire.specs.Messages.{Appended}
use Rattle.svid_wire.specs.Partial.{IsPartial, held_of}
use Rattle.svid_wire.proofs.decoding.take_piece.Given as goal

abbrev pub invariant-loop-rest : goal.invariant-loop-rest
invariant-loop-rest l = IsPartial l.state × Appended (held_of l.fn.state ++ l.piece) l.fn.out.items l.out.items (held_of l.state ++ l.rest)

abbrev pub decreases-loop-rest : goal.decreases-loop-rest
decreases-loop-rest l = length l.rest
