use Rattle.std.proofs.Common.{◌∷◌, ◌++◌, ◌∙◌, ap}
use Rattle.svid_token.specs.Compact.{IsCompact, period}
use Rattle.svid_token.proofs.CompactLemmas.{parts_of-one, parts_of-two, parts_of-three, parts_of-four}
use Rattle.svid_token.proofs.compact.three_parts.Goals as goal

pub returns-in_err-header : goal.returns-in_err-header
returns-in_err-header c = rw c.from_residual.ensures (parts_of-one _ c.in_err-header.ensures)

pub returns-in_err-payload : goal.returns-in_err-payload
returns-in_err-payload c =
    rw c.from_residual-in_err-payload.ensures (parts_of-two _ _ _ c.in_ok-header.ensures.0 c.in_err-payload.ensures c.in_ok-header.ensures.1)

pub returns-in-None : goal.returns-in-None
returns-in-None c =
    let is : IsCompact c.args.token.now c.in_ok-header.header.now c.in_ok-payload.payload.now c.in_ok-payload.signature.now = record {
      joined = c.in_ok-header.ensures.1 ∙ ap (λ rest. c.in_ok-header.header.now ++ period ∷ rest) c.in_ok-payload.ensures.1;
      header_whole = c.in_ok-header.ensures.0;
      payload_whole = c.in_ok-payload.ensures.0;
      signature_whole = c.in-None.ensures;
    } in
    (is, parts_of-three _ _ _ _ is)

pub returns-in-Some : goal.returns-in-Some
returns-in-Some c =
    parts_of-four _ _ _ _ _ _ _ c.in_ok-header.ensures.0 c.in_ok-payload.ensures.0 c.in-Some.ensures.0
    c.in_ok-header.ensures.1 c.in_ok-payload.ensures.1 c.in-Some.ensures.1
