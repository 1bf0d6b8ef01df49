use Rattle.svid_allow.proofs.LawLemmas.{domain-allows}
use Rattle.svid_allow.proofs.laws.domain_allows_its_ids.Goals as goal

pub returns : goal.returns
returns c = domain-allows
