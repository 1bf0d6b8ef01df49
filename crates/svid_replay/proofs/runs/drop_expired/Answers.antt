use Rattle.std.proofs.Common.{arith}
use Rattle.svid_replay.proofs.RunsLemmas.{dropped_all, drops_more}
use Rattle.svid_replay.proofs.runs.drop_expired.Goals as goal

pub overflow_add-dropped : goal.overflow_add-dropped
overflow_add-dropped c =
    let more = drops_more c.loop-i.runs.items _ c.loop-i.i c.args.moment _ _ _ _ c.loop-i.invariant (omega (arith, c.loop-i.invariant.long)) c.index_mut-run.ensures.value c.drop_expired-dropped.ensures.kept c.drop_expired-dropped.ensures.dropped in
    omega (arith, more.counted, c.requires)

pub loop-i-preserved : goal.loop-i-preserved
loop-i-preserved c = drops_more c.loop-i.runs.items _ c.loop-i.i c.args.moment _ _ _ _ c.loop-i.invariant (omega (arith, c.loop-i.invariant.long)) c.index_mut-run.ensures.value c.drop_expired-dropped.ensures.kept c.drop_expired-dropped.ensures.dropped

pub returns-clause-kept : goal.returns-clause-kept
returns-clause-kept c = dropped_all _ _ _ _ _ c.loop-i.invariant (omega (arith, c.loop-i.invariant.long))
