use Rattle.std.proofs.Common.{◌∙◌, ap, subst, List, OnOk, OnErr}
use Rattle.std.specs.List.{flat_map}
use Rattle.svid_replay.specs.Batches.{BatchData}
use Rattle.svid_replay.specs.Buckets.{raised_to}
use Rattle.svid_replay.specs.Parts.{cut}
use Rattle.svid_replay.proofs.BucketsLemmas.{answered}
use Rattle.svid_wire.specs.BatchText.{batch_text}
use Rattle.svid_wire.specs.Streams.{TookAll, TookPart, taken}
use Rattle.svid_share.proofs.answer.put_answer.Goals as goal

pub returns-clause-ok : goal.returns-clause-ok
returns-clause-ok g c =
    subst (λ (batches : List BatchData). OnOk c.put_walked.result (TookAll (taken g.K.Sink.told g.K.Sink.stops c.args.out.now c.put_walked.new.out) (flat_map batch_text batches)))
    (ap (λ m. cut m c.stale-stale.result) c.moment-2.ensures.value ∙ answered c.args.state.now _ c.args.asked.now _ (c.raise.ensures.joined ∙ ap (raised_to c.args.state.now) c.moment.ensures.value) c.stale-stale.ensures) c.put_walked.ensures.ok

pub returns-clause-part : goal.returns-clause-part
returns-clause-part g c =
    subst (λ (batches : List BatchData). OnErr c.put_walked.result (TookPart (taken g.K.Sink.told g.K.Sink.stops c.args.out.now c.put_walked.new.out) (flat_map batch_text batches)))
    (ap (λ m. cut m c.stale-stale.result) c.moment-2.ensures.value ∙ answered c.args.state.now _ c.args.asked.now _ (c.raise.ensures.joined ∙ ap (raised_to c.args.state.now) c.moment.ensures.value) c.stale-stale.ensures) c.put_walked.ensures.part
