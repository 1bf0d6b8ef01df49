use Rattle.std.proofs.Common.{ap, refl, sym, ◌∙◌}
use Rattle.svid_keys.specs.Candidates.{candidates_left}
use Rattle.svid_check.specs.Said.{said_in}
use Rattle.svid_c.specs.Trust.{asked, keyless, past, unasked}
use Rattle.svid_keys.specs.Question.{question_of}
use Rattle.svid_c.proofs.LiveLemmas.{as_form}
use Rattle.svid_c.proofs.TrustLemmas.{question_told}
use Rattle.svid_c.proofs.bundles_question.ask_one.Goals as goal

pub returns-in-Err : goal.returns-in-Err
returns-in-Err c = unasked c.in-Err.refusal c.in-Err.ensures.value (as_form c.args.token.now c.in-Err.refusal c.in-Err.ensures.early) c.refuse_token.ensures.number c.refuse_token.ensures.told refl

pub returns-in-Err-candidates : goal.returns-in-Err-candidates
returns-in-Err-candidates c =
    keyless (said_in c.in-Ok.reading) c.in-Err-candidates.refusal c.in-Ok.ensures.value (sym c.in-Err-candidates.ensures)
    c.refuse_token-in-Err-candidates.ensures.number c.refuse_token-in-Err-candidates.ensures.told refl

pub returns-in_default : goal.returns-in_default
returns-in_default c =
    past (said_in c.in-Ok.reading) (candidates_left c.in-Ok-candidates.candidates) c.in-Ok.ensures.value (sym c.in-Ok-candidates.ensures) (sym c.in_default.ensures)
    c.refuse_token-in_default.ensures.number c.refuse_token-in_default.ensures.told refl

pub returns : goal.returns
returns c =
    asked (said_in c.in-Ok.reading) (candidates_left c.in-Ok-candidates.candidates) c.in-Some.key.now c.in-Ok.ensures.value (sym c.in-Ok-candidates.ensures) (sym c.in-Some.ensures)
    c.only.ensures.status c.only.ensures.told
    (ap question_told (c.question-bytes.ensures ∙ (λ i. question_of c.in-Some.key.now c.in-Ok.reading.header.alg (c.deref.ensures.value i) (c.deref-2.ensures.value i))))
