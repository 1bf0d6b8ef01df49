use Rattle.std.proofs.Common.{List, ℕ, Ok, Some, ap, length, refl, sym, ◌∙◌}
use Rattle.svid_token.specs.Compact.{Parts}
use Rattle.svid_c.specs.Signs.{has_no_parts, signs, spells_none}
use Rattle.svid_c.specs.declared.token_signature.SvidSigned.{SvidSigned}
use Rattle.svid_c.proofs.token_signature.svid_token_signature.Goals as goal

pub returns-in-Err : goal.returns-in-Err
returns-in-Err c = has_no_parts c.in-Err.refusal (sym c.in-Err.ensures.value) c.refuse_token.ensures.number c.refuse_token.ensures.told refl refl

pub returns-in-Err-read_signature : goal.returns-in-Err-read_signature
returns-in-Err-read_signature c =
    let p : Parts = record { header = c.in-Ok.parts.header.now; payload = c.in-Ok.parts.payload.now; signature = c.in-Ok.parts.signature.now } in
    spells_none p c.in-Err-read_signature.refusal (sym c.in-Ok.ensures.value) c.in-Err-read_signature.ensures.value
    c.refuse_token-in-Err-read_signature.ensures.number c.refuse_token-in-Err-read_signature.ensures.told refl refl

pub returns : goal.returns
returns c =
    let p : Parts = record { header = c.in-Ok.parts.header.now; payload = c.in-Ok.parts.payload.now; signature = c.in-Ok.parts.signature.now } in
    signs p c.deref.result.now (sym c.in-Ok.ensures.value)
    (c.in-Ok-read_signature.ensures.value ∙ ap (λ text. Ok (Some text)) (sym c.deref.ensures.value))
    c.put.ensures.put c.put.ensures.told (ap (λ (text : List ℕ). let s : SvidSigned = record { len = length text } in s) c.in-Ok.ensures.input)
