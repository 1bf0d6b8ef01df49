use Rattle.std.proofs.Common.{refl}
use Rattle.std.specs.List.{flat_map}
use Rattle.svid_replay.specs.Parts.{cut}
use Rattle.svid_replay.proofs.RecordsLemmas.{on_err}
use Rattle.svid_wire.specs.BatchText.{batch_text}
use Rattle.svid_share.proofs.PagesLemmas.{passed_in_part, passed_whole}
use Rattle.svid_share.proofs.parts.put_walked.Goals as goal

pub returns-in_err-flush-clause-part : goal.returns-in_err-flush-clause-part
returns-in_err-flush-clause-part g c =
    on_err _ _ (passed_in_part g.K.Sink.told g.K.Sink.stops _ _ _ _ _ _ (flat_map batch_text (cut c.args.moment (g.W.Walked.left c.args.walked.now))) c.in_ok-put_parts.ensures.ok c.in_err-flush.ensures.part c.new-page.ensures refl)

pub returns-clause-ok : goal.returns-clause-ok
returns-clause-ok g c =
    passed_whole g.K.Sink.told g.K.Sink.stops _ _ _ _ _ _ (flat_map batch_text (cut c.args.moment (g.W.Walked.left c.args.walked.now))) c.in_ok-put_parts.ensures.ok c.in_ok-flush.ensures.ok c.new-page.ensures refl
