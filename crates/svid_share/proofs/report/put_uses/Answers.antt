use Rattle.std.proofs.Common.{◌∙◌, ap, subst, sym}
use Rattle.std.specs.List.{flat_map}
use Rattle.svid_replay.specs.Sets.{rising}
use Rattle.svid_replay.proofs.RecordsLemmas.{on_err}
use Rattle.svid_replay.proofs.WalksLemmas.{walk_ends, walk_takes}
use Rattle.svid_wire.specs.Streams.{taken}
use Rattle.svid_share.specs.Pages.{Passes}
use Rattle.svid_share.specs.Report.{use_line}
use Rattle.svid_share.proofs.PagesLemmas.{list_passes, list_stops, passed_none}
use Rattle.svid_share.proofs.report.put_uses.Goals as goal

pub loop-used-init : goal.loop-used-init
loop-used-init g c = passed_none g.K.Sink.told g.K.Sink.stops c.args.out.now c.args.page.now

pub loop-used-preserved : goal.loop-used-preserved
loop-used-preserved g c = list_passes use_line c.loop-used.yielded _ g.K.Sink.told g.K.Sink.stops _ _ _ _ _ _ _ (c.bytes.ensures ∙ c.use_line.ensures) c.loop-used.invariant c.in_ok-put.ensures.ok

pub returns-in_err-put-clause-part : goal.returns-in_err-put-clause-part
returns-in_err-put-clause-part g c =
    on_err _ _ (list_stops use_line (rising c.args.state.now.uses) c.loop-used.yielded _ _ g.K.Sink.told g.K.Sink.stops _ _ _ _ _ _ (walk_takes _ _ _ _ _ _ _ c.walk-used-items.ensures c.into_iter-used-iterator.ensures.into_iter_gives c.loop-used.yielded_by c.in-Some.ensures.steps) (c.bytes.ensures ∙ c.use_line.ensures) c.loop-used.invariant c.in_err-put.ensures.part)

pub returns-clause-ok : goal.returns-clause-ok
returns-clause-ok g c =
    subst (λ us. Passes (taken g.K.Sink.told g.K.Sink.stops c.args.out.now c.loop-used.out) c.args.page.now (flat_map use_line us) c.loop-used.page) (sym (walk_ends _ _ _ _ _ c.walk-used-items.ensures c.into_iter-used-iterator.ensures.into_iter_gives c.loop-used.yielded_by c.in-None.ensures.steps.0)) c.loop-used.invariant
