use Rattle.std.proofs.Common.{◌∙◌, ap, length, refl}
use Rattle.std.proofs.lemmas.Result.{err_from_is_err_and}
use Rattle.svid_share.proofs.OneSummaryLemmas.{is_no_summary, is_summary, none_behind, refused_as_any}
use Rattle.svid_share.proofs.PiecesLemmas.{nothing_came}
use Rattle.svid_share.proofs.one_summary.read_summary.Goals as goal

pub loop-last-init : goal.loop-last-init
loop-last-init g c = record { told = _; come = nothing_came _ _ c.new-reader.result c.new-reader.ensures.feed c.new-reader.ensures.still c.new-reader.ensures.whole; numbered = c.new-reader.ensures.number; is = refl }

pub next-requires : goal.next-requires
next-requires g c = record { begun = record { first = c.args.source.now; told = c.loop-last.invariant.told; come = c.loop-last.invariant.come } }

pub returns-in_err-next-clause-fault : goal.returns-in_err-next-clause-fault
returns-in_err-next-clause-fault g c =
    let p = err_from_is_err_and c.from_residual.result c.from_residual.ensures.1 in
    rw (p.1, p.2) (refused_as_any _ _ _ _ c.loop-last.invariant.numbered (c.in_err-next.ensures.fault c.args.source.now c.loop-last.invariant.told c.loop-last.invariant.come))

pub loop-last-preserved : goal.loop-last-preserved
loop-last-preserved g c = record {
  told = _;
  come = c.in_ok-next.ensures.came c.args.source.now c.loop-last.invariant.told c.loop-last.invariant.come;
  numbered = c.in_ok-next.ensures.number ∙ c.loop-last.invariant.numbered;
  is = c.last_of-last.ensures c.loop-last.invariant.told c.loop-last.invariant.is;
}

pub end-requires : goal.end-requires
end-requires g c = record { begun = (_, _, c.in_ok-next.ensures.came c.args.source.now c.loop-last.invariant.told c.loop-last.invariant.come) }

pub returns-in_err-end-clause-fault : goal.returns-in_err-end-clause-fault
returns-in_err-end-clause-fault g c =
    let p = err_from_is_err_and c.from_residual-in_err-end.result c.from_residual-in_err-end.ensures.1 in
    rw (p.1, p.2) (refused_as_any _ _ _ _ (c.in_ok-next.ensures.number ∙ c.loop-last.invariant.numbered) (c.in_err-end.ensures _ _ (c.in_ok-next.ensures.came c.args.source.now c.loop-last.invariant.told c.loop-last.invariant.come) (c.in_ok-next.ensures.no_more c.if-branch.false).0))

pub returns-clause-ok : goal.returns-clause-ok
returns-clause-ok g c =
    let come = c.in_ok-next.ensures.came c.args.source.now c.loop-last.invariant.told c.loop-last.invariant.come in
    let over = c.in_ok-next.ensures.no_more c.if-branch.false in
    let last = none_behind c.loop-last.invariant.told c.next.new.messages.items c.loop-last.last (ap length over.1) c.loop-last.invariant.is in
    is_summary _ _ _ _ c.only_summary.result (c.in_ok-end.ensures _ _ come over.0) (c.count-count.ensures ∙ come.count) last c.only_summary.ensures.ok

pub returns-clause-fault : goal.returns-clause-fault
returns-clause-fault g c =
    let come = c.in_ok-next.ensures.came c.args.source.now c.loop-last.invariant.told c.loop-last.invariant.come in
    let over = c.in_ok-next.ensures.no_more c.if-branch.false in
    let last = none_behind c.loop-last.invariant.told c.next.new.messages.items c.loop-last.last (ap length over.1) c.loop-last.invariant.is in
    is_no_summary _ c.args.input _ _ _ c.only_summary.result (c.in_ok-end.ensures _ _ come over.0) (c.count-count.ensures ∙ come.count) last c.only_summary.ensures.fault
