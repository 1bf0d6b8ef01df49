use Rattle.svid_replay.proofs.UsesLemmas.{counts_none}
use Rattle.svid_replay.proofs.store.UseStore.is_empty.Goals as goal

pub returns : goal.returns
returns g c = counts_none _ _ c.len.ensures
