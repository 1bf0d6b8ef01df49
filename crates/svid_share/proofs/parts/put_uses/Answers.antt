use Rattle.svid_replay.proofs.RecordsLemmas.{on_err}
use Rattle.svid_share.proofs.PagesLemmas.{next_there, next_passes, next_stops, next_is_there}
use Rattle.svid_share.proofs.parts.put_uses.Goals.{in-Some+in_ok-put, in_default}
use Rattle.svid_share.proofs.parts.put_uses.Goals as goal

pub returns-in_err-put-clause-part : goal.returns-in_err-put-clause-part
returns-in_err-put-clause-part g c =
    on_err _ _ (next_stops (g.W.Walked.left c.args.walked.now) _ _ _ c.loop.counter c.args.count g.K.Sink.told g.K.Sink.stops _ _ _ _ _ _ c.loop-test.true c.text.ensures c.loop.invariant.left c.in-Some.ensures c.loop.invariant.passes c.in_err-put.ensures.part)

pub loop-preserved : goal.loop-preserved
loop-preserved g c =
    let us = g.W.Walked.left c.args.walked.now in
    elim c.match-next_use.branch [
      | in-Some+in_ok-put w ↦ rw (w.page-is, w.out-is) (record {
        passes = next_passes us _ _ _ c.loop.counter g.K.Sink.told g.K.Sink.stops _ _ _ _ _ _ _ w.text.ensures c.loop.invariant.left w.in-Some.ensures c.loop.invariant.passes w.in_ok-put.ensures.ok;
        left = (next_there us _ _ _ c.loop.counter c.loop.invariant.left w.in-Some.ensures).1;
      })
      | in_default w ↦ absurd (next_is_there us _ c.loop.counter c.args.count c.loop-test.true c.requires c.loop.invariant.left w.in_default.ensures.0)
    ]
