use Rattle.svid_log.proofs.SavesLemmas.{saves_put_back}
use Rattle.svid_log.proofs.laws.saves_put_back.Goals as goal

pub returns : goal.returns
returns c = saves_put_back
