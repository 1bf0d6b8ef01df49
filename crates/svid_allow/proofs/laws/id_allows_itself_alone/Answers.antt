use Rattle.svid_allow.proofs.LawLemmas.{alone-allows}
use Rattle.svid_allow.proofs.laws.id_allows_itself_alone.Goals as goal

pub returns : goal.returns
returns c = alone-allows
