use Rattle.svid_share.specs.Inputs.{sources}
use Rattle.svid_share.proofs.InputsLemmas.{HasJoined}
use Rattle.svid_share.proofs.inputs.join_inputs.Given as goal

abbrev pub invariant-loop-index : goal.invariant-loop-index
invariant-loop-index g l = HasJoined l.index (sources g.S.Source.left g.S.Source.stops l.fn.inputs l.inputs) l.fn.target l.target
