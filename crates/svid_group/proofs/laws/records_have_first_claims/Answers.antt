use Rattle.svid_group.proofs.OnceLemmas.{one_use_of_a_key}
use Rattle.svid_group.proofs.laws.records_have_first_claims.Goals as goal

pub returns : goal.returns
returns c = one_use_of_a_key
