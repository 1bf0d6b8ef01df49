use Rattle.std.proofs.Common.{◌∙◌, refl, ap, arith}
use Rattle.std.proofs.lemmas.Result.{err_from_is_err_and}
use Rattle.svid_replay.specs.Parts.{join_all}
use Rattle.svid_wire.specs.Messages.{batches_of}
use Rattle.svid_share.proofs.PiecesLemmas.{joins_end, joins_more, joins_no_more, nothing_came, numbered_fault, wants_memory}
use Rattle.svid_share.proofs.inputs.join_input.Goals as goal

pub loop-reader-init : goal.loop-reader-init
loop-reader-init g c = record { told = _; come = nothing_came _ _ c.new-reader.result c.new-reader.ensures.feed c.new-reader.ensures.still c.new-reader.ensures.whole; numbered = c.new-reader.ensures.number; joins = refl }

pub next-requires : goal.next-requires
next-requires g c = record { begun = record { first = c.args.source.now; told = c.loop-reader.invariant.told; come = c.loop-reader.invariant.come } }

pub returns-in_err-next-clause-fault : goal.returns-in_err-next-clause-fault
returns-in_err-next-clause-fault g c =
    let p = err_from_is_err_and c.from_residual.result c.from_residual.ensures.1 in
    rw (p.1, p.2) (numbered_fault _ _ _ _ c.loop-reader.invariant.numbered (c.in_err-next.ensures.fault c.args.source.now c.loop-reader.invariant.told c.loop-reader.invariant.come))

pub loop-reader-preserved : goal.loop-reader-preserved
loop-reader-preserved g c =
    joins_more _ _ _ _ _ _ _ _ _ c.loop-reader.invariant (c.in_ok-next.ensures.came c.args.source.now c.loop-reader.invariant.told c.loop-reader.invariant.come) c.in_ok-next.ensures.number (c.in_ok-join_messages.ensures ∙ ap (λ ms. join_all c.loop-reader.target (batches_of ms)) c.deref.ensures.value)

pub returns-in_err-join_messages-clause-fault : goal.returns-in_err-join_messages-clause-fault
returns-in_err-join_messages-clause-fault g c =
    let p = err_from_is_err_and c.from_residual-in_err-join_messages.result c.from_residual-in_err-join_messages.ensures.1 in
    rw (p.1, p.2) (wants_memory _ _ _ (c.in_ok-next.ensures.came c.args.source.now c.loop-reader.invariant.told c.loop-reader.invariant.come) (omega (arith, c.in_ok-next.ensures.more c.if-branch.true, c.loop-reader.invariant.come.few)))

pub end-requires : goal.end-requires
end-requires g c = record { begun = (_, _, c.in_ok-next.ensures.came c.args.source.now c.loop-reader.invariant.told c.loop-reader.invariant.come) }

pub returns-clause-ok : goal.returns-clause-ok
returns-clause-ok g c =
    let come = c.in_ok-next.ensures.came c.args.source.now c.loop-reader.invariant.told c.loop-reader.invariant.come in
    let over = c.in_ok-next.ensures.no_more c.if-branch.false in
    let j = joins_no_more _ _ _ _ _ _ _ _ c.loop-reader.invariant come c.in_ok-next.ensures.number over.1 in
    (joins_end _ _ _ _ _ c.end.result j (c.end.ensures _ j.told j.come over.0)).0

pub returns-clause-fault : goal.returns-clause-fault
returns-clause-fault g c =
    let come = c.in_ok-next.ensures.came c.args.source.now c.loop-reader.invariant.told c.loop-reader.invariant.come in
    let over = c.in_ok-next.ensures.no_more c.if-branch.false in
    let j = joins_no_more _ _ _ _ _ _ _ _ c.loop-reader.invariant come c.in_ok-next.ensures.number over.1 in
    (joins_end _ _ _ _ _ c.end.result j (c.end.ensures _ j.told j.come over.0)).1
