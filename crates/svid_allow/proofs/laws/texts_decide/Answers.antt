use Rattle.svid_allow.proofs.LawLemmas.{by-texts}
use Rattle.svid_allow.proofs.laws.texts_decide.Goals as goal

pub returns : goal.returns
returns c = by-texts
