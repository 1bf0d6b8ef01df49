use Rattle.svid_uses.proofs.OneWayLemmas.{batched_one_way}
use Rattle.svid_uses.proofs.laws.uses_are_batched_in_one_way.Goals as goal

pub returns : goal.returns
returns c = batched_one_way
