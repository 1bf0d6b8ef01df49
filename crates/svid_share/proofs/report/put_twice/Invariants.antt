use Rattle.std.proofs.Common.{take}
use Rattle.std.specs.List.{flat_map}
use Rattle.svid_wire.specs.Streams.{taken}
use Rattle.svid_share.specs.Pages.{Passes}
use Rattle.svid_share.specs.Report.{twice_line}
use Rattle.svid_share.proofs.report.put_twice.Given as goal

abbrev pub invariant-loop-used_twice : goal.invariant-loop-used_twice
invariant-loop-used_twice g l = Passes (taken g.K.Sink.told g.K.Sink.stops l.fn.out l.out) l.fn.page (flat_map twice_line (take l.used_twice-index l.twice)) l.page
