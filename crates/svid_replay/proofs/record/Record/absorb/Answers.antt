use Rattle.svid_replay.proofs.RecordsLemmas.{absorbed_at_once, made_by_raised, made_in_batch, absorb_refused, absorbs_more, refused_is_new, on_err}
use Rattle.svid_replay.proofs.record.Record.absorb.Goals as goal

pub take_all-requires-clause-made : goal.take_all-requires-clause-made
take_all-requires-clause-made g c = made_by_raised c.args.self.now c.raise.new.self c.args.batch.now c.uses.result.now c.uses.ensures.batch c.uses.ensures.value (rw c.moment.ensures.value at c.raise.ensures.joined)

pub returns-then-take_all-clause-joined : goal.returns-then-take_all-clause-joined
returns-then-take_all-clause-joined g c = absorbed_at_once c.args.self.now c.raise.new.self c.take_all.new.self c.args.batch.now.moment c.args.batch.now.uses (rw c.moment.ensures.value at c.raise.ensures.joined) (rw c.uses.ensures.value at (c.take_all.ensures.all c.if-take_all.true))

pub take_in-requires : goal.take_in-requires
take_in-requires g c = made_in_batch _ _ c.args.batch.now _ _ _ c.uses-used-items.ensures.batch c.uses-used-items.ensures.value c.loop-used-test.true c.loop-used.invariant

pub returns-in_err-take_in-clause-refused : goal.returns-in_err-take_in-clause-refused
returns-in_err-take_in-clause-refused g c =
    on_err _ _ (absorb_refused _ _ _ c.args.batch.now _ _ _ c.uses-used-items.ensures.value c.loop-used-test.true c.loop-used.invariant c.in_err-take_in.ensures.err c.in_err-take_in.ensures.refused)

pub returns-in_err-take_in-clause-nothing_new : goal.returns-in_err-take_in-clause-nothing_new
returns-in_err-take_in-clause-nothing_new g c = λ none.
    absurd (refused_is_new _ _ _ _ (absorb_refused _ _ _ c.args.batch.now _ _ _ c.uses-used-items.ensures.value c.loop-used-test.true c.loop-used.invariant c.in_err-take_in.ensures.err c.in_err-take_in.ensures.refused) none)

pub loop-used-preserved : goal.loop-used-preserved
loop-used-preserved g c = absorbs_more _ _ _ _ _ _ _ c.loop-used-test.true c.loop-used.invariant c.in_ok-take_in.ensures.ok
