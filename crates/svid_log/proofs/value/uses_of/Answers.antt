use Rattle.std.proofs.Common.{◌++◌, List, ap, subst, sym, ◌∙◌, arith}
use Rattle.svid_wire.specs.Feed.{IsPushFault, Pushed}
use Rattle.svid_wire.specs.Messages.{batches_of}
use Rattle.svid_log.specs.Values.{uses_in}
use Rattle.svid_log.proofs.ValuesLemmas.{halves, no_bytes, read_end, read_more, stops_behind}
use Rattle.svid_log.proofs.value.uses_of.Goals as goal

pub returns-in-Err-clause-fault : goal.returns-in-Err-clause-fault
returns-in-Err-clause-fault c =
    stops_behind _ _ _ _ _ _ _ _ c.loop-rest.invariant (halves _ _ _ _ c.split_at.ensures.front c.split_at.ensures.back)
    (subst (λ xs. IsPushFault c.loop-rest.feed xs c.push.new.out.items c.split_at.result.0.now c.in-Err.fault) c.clear.ensures.items c.in-Err.ensures.fault)

pub loop-rest-preserved : goal.loop-rest-preserved
loop-rest-preserved c =
    read_more _ _ _ _ _ _ _ _ _ c.loop-rest.invariant (halves _ _ _ _ c.split_at.ensures.front c.split_at.ensures.back)
    (subst (λ xs. Pushed c.loop-rest.feed c.push.new.self xs c.push.new.out.items c.split_at.result.0.now) c.clear.ensures.items c.in_default.ensures.ok)
    (c.in_ok-append_uses.ensures ∙ ap (λ ms. c.loop-rest.uses.items ++ uses_in (batches_of ms)) c.deref.ensures.value)

pub returns-clause-fault : goal.returns-clause-fault
returns-clause-fault c = (read_end _ _ _ _ _ c.loop-rest.invariant (no_bytes _ (omega (arith, c.loop-rest-test.false))) (sym c.in-Err-finish.is ∙ c.finish.ensures)).1
