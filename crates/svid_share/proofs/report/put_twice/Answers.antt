use Rattle.std.proofs.Common.{◌∙◌, ap}
use Rattle.svid_replay.proofs.RecordsLemmas.{on_err}
use Rattle.svid_share.specs.Report.{twice_line}
use Rattle.svid_share.proofs.PagesLemmas.{item_passes, item_stops}
use Rattle.svid_share.proofs.report.put_twice.Goals as goal

pub returns-in_err-put-clause-part : goal.returns-in_err-put-clause-part
returns-in_err-put-clause-part g c =
    on_err _ _ (item_stops twice_line c.args.twice.now c.loop-used_twice.used_twice-index _ g.K.Sink.told g.K.Sink.stops _ _ _ _ _ _ c.loop-used_twice-test.true (c.bytes.ensures ∙ c.twice_line.ensures ∙ ap twice_line c.used_twice-item.is) c.loop-used_twice.invariant c.in_err-put.ensures.part)

pub loop-used_twice-preserved : goal.loop-used_twice-preserved
loop-used_twice-preserved g c =
    item_passes twice_line c.args.twice.now c.loop-used_twice.used_twice-index _ g.K.Sink.told g.K.Sink.stops _ _ _ _ _ _ _ c.loop-used_twice-test.true (c.bytes.ensures ∙ c.twice_line.ensures ∙ ap twice_line c.used_twice-item.is) c.loop-used_twice.invariant c.in_ok-put.ensures.ok
