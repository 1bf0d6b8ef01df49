use Rattle.std.proofs.Common.{◌≡◌, drop}
use Rattle.svid_wire.specs.Streams.{taken}
use Rattle.svid_share.specs.Pages.{Passes, next_texts}
use Rattle.svid_share.proofs.parts.put_uses.Given as goal

abbrev pub invariant-loop : goal.invariant-loop
invariant-loop g l = let us = g.W.Walked.left l.fn.walked in record {
  passes : Passes (taken g.K.Sink.told g.K.Sink.stops l.fn.out l.out) l.fn.page (next_texts us l.counter) l.page;
  left : g.W.Walked.left l.walked ≡ drop l.counter us;
}
