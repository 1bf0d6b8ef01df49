use Rattle.std.specs.List.{flat_map}
use Rattle.svid_wire.specs.Streams.{taken}
use Rattle.svid_share.specs.Pages.{Passes}
use Rattle.svid_share.specs.Report.{use_line}
use Rattle.svid_share.proofs.report.put_uses.Given as goal

abbrev pub invariant-loop-used : goal.invariant-loop-used
invariant-loop-used g l = Passes (taken g.K.Sink.told g.K.Sink.stops l.fn.out l.out) l.fn.page (flat_map use_line l.yielded) l.page
