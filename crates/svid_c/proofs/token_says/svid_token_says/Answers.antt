use Rattle.std.proofs.Common.{List, ℕ, ap, length, refl, ◌∙◌}
use Rattle.svid_check.specs.Said.{said_in}
use Rattle.svid_c.specs.Says.{no_memory, says, says_nothing, texts_of}
use Rattle.svid_c.specs.Status.{told_length}
use Rattle.svid_c.proofs.LiveLemmas.{as_form}
use Rattle.svid_c.proofs.SaysLemmas.{said_told}
use Rattle.svid_c.proofs.token_says.svid_token_says.Goals as goal

pub returns-in-Err : goal.returns-in-Err
returns-in-Err c = says_nothing c.in-Err.refusal c.in-Err.ensures.value (as_form c.args.token.now c.in-Err.refusal c.in-Err.ensures.early) c.refuse_token.ensures.number c.refuse_token.ensures.told refl refl refl

pub returns-in-Err-texts_of : goal.returns-in-Err-texts_of
returns-in-Err-texts_of c = no_memory (said_in c.in-Ok.reading) c.in-Ok.ensures.value c.refuse_token-in-Err-texts_of.ensures.number c.refuse_token-in-Err-texts_of.ensures.told refl refl refl

pub returns : goal.returns
returns c =
    let t = said_in c.in-Ok.reading in
    let bytes = c.deref-bytes.ensures.value ∙ c.in-Ok-texts_of.ensures.bytes in
    let lens = c.deref-each.ensures.value ∙ c.in-Ok-texts_of.ensures.lens in
    says t c.in-Ok.ensures.value (c.put_texts.ensures (texts_of t) bytes lens) (c.told_length.ensures ∙ ap (λ (text : List ℕ). told_length (length text)) bytes)
    (said_told t c.key.result c.deref-each.result.now c.key.ensures lens)
