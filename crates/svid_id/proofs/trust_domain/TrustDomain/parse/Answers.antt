use Rattle.std.proofs.Common.{sym, ◌∙◌}
use Rattle.svid_id.proofs.DomainLemmas.{IsDomain-from_fault, IsUtf8-IsDomain, domain_fault-IsDomain}
use Rattle.svid_id.proofs.trust_domain.TrustDomain.parse.Goals as goal

pub returns-in_err-check_domain-clause-only : goal.returns-in_err-check_domain-clause-only
returns-in_err-check_domain-clause-only c = λ is.
    let fault = c.in_err-check_domain.ensures ∙ domain_fault-IsDomain 0 _ is in absurd (cc)

pub to_text-requires : goal.to_text-requires
to_text-requires c = IsUtf8-IsDomain _ (IsDomain-from_fault 0 _ (sym c.in_ok-check_domain.ensures))

pub invariant_of-result : goal.invariant_of-result
invariant_of-result c = rw c.in_ok-name.ensures (IsDomain-from_fault 0 _ (sym c.in_ok-check_domain.ensures))

pub returns-clause-ok : goal.returns-clause-ok
returns-clause-ok c = IsDomain-from_fault 0 _ (sym c.in_ok-check_domain.ensures)
