use Rattle.std.proofs.Common.{[], sym, ◌∙◌, ◌++◌, ap, subst, append-nil}
use Rattle.svid_replay.proofs.RecordsLemmas.{on_err}
use Rattle.svid_wire.specs.Streams.{taken}
use Rattle.svid_share.specs.Pages.{Passes, next_texts}
use Rattle.svid_share.proofs.PagesLemmas.{err_then, next_batch_text, ok_then, passed_both, passed_none, passed_part}
use Rattle.svid_share.proofs.parts.put_batch.Goals as goal

pub returns-in_err-put-clause-part : goal.returns-in_err-put-clause-part
returns-in_err-put-clause-part g c =
    let us = g.W.Walked.left c.args.walked.now in
    on_err _ _ (passed_part g.K.Sink.told g.K.Sink.stops _ _ _ c.args.page.now [] _ _ (next_texts us c.args.count) _ (next_batch_text c.args.moment us c.args.count c.batch_head.result c.requires.there c.batch_head.ensures) (passed_none g.K.Sink.told g.K.Sink.stops _ _) c.in_err-put.ensures.part)

pub returns-clause-ok : goal.returns-clause-ok
returns-clause-ok g c =
    let us = g.W.Walked.left c.args.walked.now in
    ok_then _ _ _ c.put_uses.ensures.ok (λ passes.
    subst (λ x. Passes (taken g.K.Sink.told g.K.Sink.stops c.args.out.now c.put_uses.new.out) c.args.page.now x c.put_uses.new.page) (sym (next_batch_text c.args.moment us c.args.count c.batch_head.result c.requires.there c.batch_head.ensures))
    (passed_both g.K.Sink.told g.K.Sink.stops _ _ _ _ _ _ _ _ c.in_ok-put.ensures.ok passes))

pub returns-clause-part : goal.returns-clause-part
returns-clause-part g c =
    let us = g.W.Walked.left c.args.walked.now in
    err_then _ _ _ c.put_uses.ensures.part (λ part.
    passed_part g.K.Sink.told g.K.Sink.stops _ _ _ c.args.page.now c.batch_head.result _ (next_texts us c.args.count) [] _ (next_batch_text c.args.moment us c.args.count c.batch_head.result c.requires.there c.batch_head.ensures ∙ ap (λ x. c.batch_head.result ++ x) (sym (append-nil (next_texts us c.args.count)))) c.in_ok-put.ensures.ok part)
