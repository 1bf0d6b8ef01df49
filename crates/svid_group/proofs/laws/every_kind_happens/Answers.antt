use Rattle.svid_group.proofs.HistoryLemmas.{every_kind_happens, own_claim_is_accepted}
use Rattle.svid_group.proofs.laws.every_kind_happens.Goals as goal

pub returns : goal.returns
returns c = record { own = own_claim_is_accepted; all = every_kind_happens }
