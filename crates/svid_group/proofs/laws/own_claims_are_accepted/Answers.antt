use Rattle.svid_group.proofs.OnceLemmas.{only_claim_is_accepted, own_is_accepted}
use Rattle.svid_group.proofs.laws.own_claims_are_accepted.Goals as goal

pub returns : goal.returns
returns c = record { own = own_is_accepted; only = only_claim_is_accepted }
