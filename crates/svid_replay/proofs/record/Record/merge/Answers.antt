use Rattle.svid_replay.specs.Records.{join}
use Rattle.svid_replay.proofs.RecordsLemmas.{joined_push, made_before, merged, partly, refused_is_new, on_err}
use Rattle.svid_replay.proofs.WalksLemmas.{walk_ends, walk_takes}
use Rattle.svid_replay.proofs.record.Record.merge.Goals as goal

pub loop-used-init : goal.loop-used-init
loop-used-init g c = rw c.moment.ensures.value at c.raise.ensures.joined

pub take_in-requires : goal.take_in-requires
take_in-requires g c =
    made_before c.args.other.now _ _ _ _ _ c.moment.ensures.is_record c.loop-used.invariant (walk_takes _ _ _ _ _ _ _ c.walk-used-items.ensures c.into_iter-used-iterator.ensures.into_iter_gives c.loop-used.yielded_by c.in-Some.ensures.steps)

pub loop-used-preserved : goal.loop-used-preserved
loop-used-preserved g c = joined_push _ _ _ _ c.loop-used.yielded _ c.loop-used.invariant c.in_ok-take_in.ensures.ok

pub returns-in_err-take_in-clause-refused : goal.returns-in_err-take_in-clause-refused
returns-in_err-take_in-clause-refused g c =
    on_err _ _ (partly _ _ _ _ _ _ _ _ (walk_takes _ _ _ _ _ _ _ c.walk-used-items.ensures c.into_iter-used-iterator.ensures.into_iter_gives c.loop-used.yielded_by c.in-Some.ensures.steps) c.loop-used.invariant c.in_err-take_in.ensures.err c.in_err-take_in.ensures.refused)

pub returns-in_err-take_in-clause-nothing_new : goal.returns-in_err-take_in-clause-nothing_new
returns-in_err-take_in-clause-nothing_new g c = λ none.
    absurd (refused_is_new _ _ _ _ (partly _ _ _ _ _ _ _ _ (walk_takes _ _ _ _ _ _ _ c.walk-used-items.ensures c.into_iter-used-iterator.ensures.into_iter_gives c.loop-used.yielded_by c.in-Some.ensures.steps) c.loop-used.invariant c.in_err-take_in.ensures.err c.in_err-take_in.ensures.refused) none)

pub returns-clause-joined : goal.returns-clause-joined
returns-clause-joined g c =
    merged _ _ c.args.other.now _ c.loop-used.invariant (walk_ends _ _ _ _ _ c.walk-used-items.ensures c.into_iter-used-iterator.ensures.into_iter_gives c.loop-used.yielded_by c.in-None.ensures.steps.0)
