use Rattle.svid_allow.proofs.LawLemmas.{same-domain}
use Rattle.svid_allow.proofs.laws.one_trust_domain.Goals as goal

pub returns : goal.returns
returns c = same-domain
