use Rattle.std.proofs.Common.{◌≡◌, length}
use Rattle.svid_wire.specs.Streams.{taken}
use Rattle.svid_share.proofs.PagesLemmas.{HasCut}
use Rattle.svid_share.proofs.parts.put_parts.Given as goal

abbrev pub invariant-loop-left : goal.invariant-loop-left
invariant-loop-left g l = record {
  cut : HasCut (taken g.K.Sink.told g.K.Sink.stops l.fn.out l.out) l.fn.page l.page l.moment (g.W.Walked.left l.fn.walked) (g.W.Walked.left l.walked);
  left : l.left ≡ length (g.W.Walked.left l.walked);
}

abbrev pub decreases-loop-left : goal.decreases-loop-left
decreases-loop-left g l = l.left
