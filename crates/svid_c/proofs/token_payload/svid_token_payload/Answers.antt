use Rattle.std.proofs.Common.{Ok, Some, ap, refl, sym, ◌∙◌}
use Rattle.svid_token.specs.Compact.{Parts}
use Rattle.svid_c.specs.TokenPayload.{has_no_parts, payload_put, spells_none}
use Rattle.svid_c.proofs.token_payload.svid_token_payload.Goals as goal

pub returns-in-Err : goal.returns-in-Err
returns-in-Err c = has_no_parts c.in-Err.refusal (sym c.in-Err.ensures.value) c.refuse_token.ensures.number c.refuse_token.ensures.told refl

pub returns-in-Err-read_payload : goal.returns-in-Err-read_payload
returns-in-Err-read_payload c =
    let p : Parts = record { header = c.in-Ok.parts.header.now; payload = c.in-Ok.parts.payload.now; signature = c.in-Ok.parts.signature.now } in
    spells_none p c.in-Err-read_payload.refusal (sym c.in-Ok.ensures.value) c.in-Err-read_payload.ensures
    c.refuse_token-in-Err-read_payload.ensures.number c.refuse_token-in-Err-read_payload.ensures.told refl

pub returns-in-Ok-read_payload : goal.returns-in-Ok-read_payload
returns-in-Ok-read_payload c =
    let p : Parts = record { header = c.in-Ok.parts.header.now; payload = c.in-Ok.parts.payload.now; signature = c.in-Ok.parts.signature.now } in
    payload_put p c.deref.result.now (sym c.in-Ok.ensures.value)
    (c.in-Ok-read_payload.ensures ∙ ap (λ text. Ok (Some text)) (sym c.deref.ensures.value)) c.put.ensures.put c.put.ensures.told
