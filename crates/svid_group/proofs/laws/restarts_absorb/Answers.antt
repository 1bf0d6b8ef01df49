use Rattle.svid_group.proofs.ToldLemmas.{restarts_absorb, restarts_put_back}
use Rattle.svid_group.proofs.laws.restarts_absorb.Goals as goal

pub returns : goal.returns
returns c = record { parts = restarts_absorb; put_back = restarts_put_back }
