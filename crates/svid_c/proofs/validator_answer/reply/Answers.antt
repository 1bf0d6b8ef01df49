use Rattle.std.proofs.Common.{refl, ap, ◌∙◌}
use Rattle.std.specs.List.{flat_map}
use Rattle.svid_wire.specs.BatchText.{batch_text}
use Rattle.svid_check.specs.Setting.{with_state}
use Rattle.svid_check.specs.declared.take_fault.TakeFault.TheVariants.{TooFarAhead, OutOfMemory}
use Rattle.svid_c.proofs.LiveLemmas.{answering_fault}
use Rattle.svid_c.specs.Live.{no_memory_for_reply, no_summary, replied, reply_too_far}
use Rattle.svid_c.proofs.validator_answer.reply.Goals as goal

pub returns-in-Err-clause-does : goal.returns-in-Err-clause-does
returns-in-Err-clause-does c = no_summary c.in-Err.fault c.in-Err.ensures.fault c.refuse.ensures.number c.refuse.ensures.told refl refl

pub returns-in-Ok-texts_of : goal.returns-in-Ok-texts_of
returns-in-Ok-texts_of c = record {
  does = replied c.in-Ok.asked c.bytes.result.now c.in-Ok.ensures.ok c.in-Ok-answer.ensures.replied.0
      (c.bytes.ensures ∙ c.in-Ok-texts_of.ensures ∙ ap (flat_map batch_text) (c.deref.ensures.value ∙ c.in-Ok-answer.ensures.replied.1))
      c.put.ensures.put c.put.ensures.told (c.in-Ok-answer.ensures.rest ∙ ap (with_state c.args.live.now.validator) c.in-Ok-answer.ensures.replied.2);
  rest = (refl, refl, refl);
}

pub returns-in-Ok-answer-clause-does : goal.returns-in-Ok-answer-clause-does
returns-in-Ok-answer-clause-does c =
    no_memory_for_reply c.in-Ok.asked c.in-Ok.ensures.ok c.in-Ok-answer.ensures.replied.0 refl c.told_length.ensures refl
    (c.in-Ok-answer.ensures.rest ∙ ap (with_state c.args.live.now.validator) c.in-Ok-answer.ensures.replied.2)

pub returns-in-Err-TooFarAhead-clause-does : goal.returns-in-Err-TooFarAhead-clause-does
returns-in-Err-TooFarAhead-clause-does c =
    let t = answering_fault _ _ c.in-Ok.asked _ _ TooFarAhead c.in-Err-TooFarAhead.field-0-is c.in-Err-TooFarAhead.ensures.replied in
    reply_too_far c.in-Ok.asked c.in-Ok.ensures.ok t.0 refl c.told_length-in-Err-TooFarAhead.ensures refl
    (c.in-Err-TooFarAhead.ensures.rest ∙ ap (with_state c.args.live.now.validator) t.1)

pub returns-clause-does : goal.returns-clause-does
returns-clause-does c =
    let t = answering_fault _ _ c.in-Ok.asked _ _ OutOfMemory c.in-Err-OutOfMemory.field-0-is c.in-Err-OutOfMemory.ensures.replied in
    no_memory_for_reply c.in-Ok.asked c.in-Ok.ensures.ok t.0 refl c.told_length-in-Err-OutOfMemory.ensures refl
    (c.in-Err-OutOfMemory.ensures.rest ∙ ap (with_state c.args.live.now.validator) t.1)
