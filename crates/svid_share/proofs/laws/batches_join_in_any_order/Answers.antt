use Rattle.svid_share.proofs.JoinedLemmas.{joined_by_which}
use Rattle.svid_share.proofs.laws.batches_join_in_any_order.Goals as goal

pub returns : goal.returns
returns c = joined_by_which
