use Rattle.std.proofs.Common.{sym, ◌∙◌}
use Rattle.svid_id.proofs.IdLemmas.{IsId-from_fault, IsUtf8-IsId, id_fault-IsId}
use Rattle.svid_id.proofs.spiffe_id.SpiffeId.parse.Goals as goal

pub returns-in_err-domain_len-clause-only : goal.returns-in_err-domain_len-clause-only
returns-in_err-domain_len-clause-only c = λ id is.
    let fault = c.in_err-domain_len.ensures.fault ∙ id_fault-IsId _ id is in absurd (cc)

pub to_text-requires : goal.to_text-requires
to_text-requires c = IsUtf8-IsId _ _ (IsId-from_fault _ (sym c.in_ok-domain_len.ensures.fault))

pub invariant_of-result : goal.invariant_of-result
invariant_of-result c =
    rw c.in_ok-text.ensures (IsId-from_fault _ (sym c.in_ok-domain_len.ensures.fault), c.in_ok-domain_len.ensures.len)

pub returns-clause-ok : goal.returns-clause-ok
returns-clause-ok c = rw c.in_ok-text.ensures (IsId-from_fault _ (sym c.in_ok-domain_len.ensures.fault))
