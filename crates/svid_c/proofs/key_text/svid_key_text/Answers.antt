use Rattle.std.proofs.Common.{Ok, ap, refl, sym, ◌∙◌}
use Rattle.svid_c.specs.KeyText.{no_key, text_put}
use Rattle.svid_c.proofs.key_text.svid_key_text.Goals as goal

pub returns-in-Ok : goal.returns-in-Ok
returns-in-Ok c =
    text_put c.as_bytes.result.now (c.in-Ok.ensures.key ∙ ap (λ text. Ok text) (sym c.as_bytes.ensures.value)) c.put.ensures.put c.put.ensures.told

pub returns-in-Err : goal.returns-in-Err
returns-in-Err c =
    no_key c.in-Err.fault c.in-Err.ensures.fault (c.only.ensures.status ∙ c.entry_number.ensures) c.only.ensures.told refl
