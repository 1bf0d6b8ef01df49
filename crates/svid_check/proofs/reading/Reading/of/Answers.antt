use Rattle.std.proofs.Common.{◌≡◌, ◌∙◌, rules}
use Rattle.std.proofs.lemmas.Result.{err_from_is_err_and}
use Rattle.svid_check.proofs.SaidLemmas.{all_said, refused_claims, refused_header, refused_payload, refused_signature}
use Rattle.svid_check.proofs.reading.Reading.of.Goals as goal

pub returns-in_err-header-clause-value : goal.returns-in_err-header-clause-value
returns-in_err-header-clause-value c =
    let p = err_from_is_err_and c.from_residual-in_err-header.result c.from_residual-in_err-header.ensures.1 in
    rw (p.1, p.2) (refused_header _ _ _ c.in_ok-compact.ensures.value c.in_err-header.ensures)

pub returns-in_err-payload-clause-value : goal.returns-in_err-payload-clause-value
returns-in_err-payload-clause-value c =
    let p = err_from_is_err_and c.from_residual-in_err-payload.result c.from_residual-in_err-payload.ensures.1 in
    rw (p.1, p.2) (refused_payload _ _ _ _ c.in_ok-compact.ensures.value c.in_ok-header.ensures c.in_err-payload.ensures)

pub returns-in_err-signature-clause-value : goal.returns-in_err-signature-clause-value
returns-in_err-signature-clause-value c =
    let p = err_from_is_err_and c.from_residual-in_err-signature.result c.from_residual-in_err-signature.ensures.1 in
    rw (p.1, p.2) (refused_signature _ _ _ _ _ c.in_ok-compact.ensures.value c.in_ok-header.ensures c.in_ok-payload.ensures c.in_err-signature.ensures.value)

pub returns-in_err-claims-clause-value : goal.returns-in_err-claims-clause-value
returns-in_err-claims-clause-value c =
    let p = err_from_is_err_and c.from_residual-in_err-claims.result c.from_residual-in_err-claims.ensures.1 in
    rw (p.1, p.2) (refused_claims _ _ _ _ _ _ c.in_ok-compact.ensures.value c.in_ok-header.ensures c.in_ok-payload.ensures c.in_ok-signature.ensures.value c.in_err-claims.ensures)

pub returns-clause-value : goal.returns-clause-value
returns-clause-value c =
    let copied : c.in_ok-input.input.items ≡ c.in_ok-compact.compact.input.now = search rules in
    all_said _ _ _ _ _ _ _ c.in_ok-compact.ensures.value c.in_ok-header.ensures c.in_ok-payload.ensures c.in_ok-signature.ensures.value c.in_ok-claims.ensures (copied ∙ c.in_ok-compact.ensures.input)
