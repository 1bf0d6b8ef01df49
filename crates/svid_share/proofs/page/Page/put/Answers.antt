use Rattle.std.proofs.Common.{[], subst, sym, append-nil, ap, ◌∙◌, ◌++◌}
use Rattle.svid_replay.proofs.RecordsLemmas.{on_err}
use Rattle.svid_wire.specs.Streams.{TookAll, taken}
use Rattle.svid_share.proofs.PagesLemmas.{part_went, passed_full}
use Rattle.svid_share.proofs.page.Page.put.Goals as goal

pub returns-in_err-put_bytes-clause-part : goal.returns-in_err-put_bytes-clause-part
returns-in_err-put_bytes-clause-part g c =
    on_err _ _ (part_went g.K.Sink.told g.K.Sink.stops _ _ _ c.args.self.now c.args.text.now [] _ (ap (λ x. c.args.self.now ++ x) (sym (append-nil c.args.text.now))) (subst (TookAll (taken g.K.Sink.told g.K.Sink.stops _ _)) (ap (λ r. r.items) c.in-Err.ensures.err ∙ c.self.view_is) c.in_ok-flush.ensures.ok) c.in_err-put_bytes.ensures.part)

pub returns-in_ok-put_bytes-clause-ok : goal.returns-in_ok-put_bytes-clause-ok
returns-in_ok-put_bytes-clause-ok g c =
    passed_full g.K.Sink.told g.K.Sink.stops _ _ _ c.args.self.now c.args.text.now _ (subst (TookAll (taken g.K.Sink.told g.K.Sink.stops _ _)) (ap (λ r. r.items) c.in-Err.ensures.err ∙ c.self.view_is) c.in_ok-flush.ensures.ok) c.in_ok-put_bytes.ensures.ok c.in_ok-flush.ensures.empty
