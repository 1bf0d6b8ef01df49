use Rattle.std.proofs.Common.{ap, arith, length, length-drop}
use Rattle.svid_replay.proofs.RecordsLemmas.{on_err}
use Rattle.svid_share.proofs.PagesLemmas.{cut_begins, cut_ends, cut_goes_on, cut_stops, cut_stops_last, err_then, ok_then}
use Rattle.svid_share.proofs.parts.put_parts.Goals as goal

pub loop-left-init : goal.loop-left-init
loop-left-init g c = record { cut = cut_begins c.args.moment (g.W.Walked.left c.args.walked.now) g.K.Sink.told g.K.Sink.stops c.args.out.now c.args.page.now; left = c.requires }

pub returns-in_err-put_batch-clause-part : goal.returns-in_err-put_batch-clause-part
returns-in_err-put_batch-clause-part g c =
    on_err _ _ (cut_stops c.args.moment (g.W.Walked.left c.args.walked.now) _ g.K.Sink.told g.K.Sink.stops _ _ _ _ _ (omega (arith, c.loop-left.invariant.left, c.loop-left-test.true)) c.loop-left.invariant.cut c.in_err-put_batch.ensures.part)

pub loop-left-preserved : goal.loop-left-preserved
loop-left-preserved g c =
    let left = c.in_ok-put_batch.ensures.left in
    record {
      cut = cut_goes_on c.args.moment (g.W.Walked.left c.args.walked.now) _ _ g.K.Sink.told g.K.Sink.stops _ _ _ _ _ _ (omega (arith, c.loop-left.invariant.left, c.loop-left-test.true)) c.loop-left.invariant.cut c.in_ok-put_batch.ensures.ok left;
      left = omega (arith, c.loop-left.invariant.left, ap length left, length-drop 65536 (g.W.Walked.left c.loop-left.walked));
    }

pub returns-clause-ok : goal.returns-clause-ok
returns-clause-ok g c =
    ok_then _ _ _ c.put_batch-2.ensures.ok (λ passes.
    cut_ends c.args.moment (g.W.Walked.left c.args.walked.now) _ c.loop-left.left g.K.Sink.told g.K.Sink.stops _ _ _ _ _ _ c.loop-left.invariant.left (omega (arith, c.loop-left-test.false)) c.loop-left.invariant.cut passes)

pub returns-clause-part : goal.returns-clause-part
returns-clause-part g c =
    err_then _ _ _ c.put_batch-2.ensures.part (λ part.
    cut_stops_last c.args.moment (g.W.Walked.left c.args.walked.now) _ c.loop-left.left g.K.Sink.told g.K.Sink.stops _ _ _ _ _ c.loop-left.invariant.left (omega (arith, c.loop-left-test.false)) c.loop-left.invariant.cut part)
