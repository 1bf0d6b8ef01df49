use Rattle.svid_bearer.proofs.ReadLemmas.{IsToken-separators}
use Rattle.svid_bearer.proofs.laws.no_comma_in_a_token.Goals as goal

pub returns : goal.returns
returns c = IsToken-separators
