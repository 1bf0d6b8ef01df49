use Rattle.svid_id.proofs.DomainLemmas.{passes-IsDomain}
use Rattle.svid_id.proofs.domain.is_domain_name.Goals as goal

pub returns-clause-domain : goal.returns-clause-domain
returns-clause-domain c = rw c.is_ok.ensures.value (passes-IsDomain _ _ c.check_domain.ensures)
