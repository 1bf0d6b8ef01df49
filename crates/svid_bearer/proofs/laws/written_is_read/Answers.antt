use Rattle.svid_bearer.proofs.ReadLemmas.{IsAnswer-written}
use Rattle.svid_bearer.proofs.laws.written_is_read.Goals as goal

pub returns : goal.returns
returns c = IsAnswer-written
