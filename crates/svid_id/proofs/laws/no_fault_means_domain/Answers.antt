use Rattle.svid_id.proofs.DomainLemmas.{IsDomain-from_fault, domain_fault-IsDomain}
use Rattle.svid_id.proofs.IdLemmas.{domain_fault-memory}
use Rattle.svid_id.proofs.laws.no_fault_means_domain.Goals as goal

pub returns-clause-exactly : goal.returns-clause-exactly
returns-clause-exactly c = λ offset text. (IsDomain-from_fault offset text, domain_fault-IsDomain offset text)

pub returns-clause-no_memory : goal.returns-clause-no_memory
returns-clause-no_memory c = domain_fault-memory
