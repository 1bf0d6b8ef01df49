use Rattle.svid_claims.proofs.ExpiriesLemmas.{owners_tell_expiries}
use Rattle.svid_claims.proofs.laws.owners_tell_expiries.Goals as goal

pub returns : goal.returns
returns c = owners_tell_expiries
