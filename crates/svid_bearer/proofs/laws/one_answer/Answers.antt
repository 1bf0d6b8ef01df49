use Rattle.svid_bearer.proofs.ReadLemmas.{IsAnswer-unique}
use Rattle.svid_bearer.proofs.laws.one_answer.Goals as goal

pub returns : goal.returns
returns c = IsAnswer-unique
