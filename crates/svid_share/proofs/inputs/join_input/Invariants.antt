use Rattle.svid_wire.specs.Streams.{drawn}
use Rattle.svid_share.proofs.PiecesLemmas.{JoinsSoFar}
use Rattle.svid_share.proofs.inputs.join_input.Given as goal

abbrev pub invariant-loop-reader : goal.invariant-loop-reader
invariant-loop-reader g l = JoinsSoFar (drawn g.S.Source.left g.S.Source.stops l.fn.source l.source) l.reader l.fn.input l.fn.target l.target

abbrev pub decreases-loop-reader : goal.decreases-loop-reader
decreases-loop-reader g l = l.reader.still
