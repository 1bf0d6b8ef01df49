use Rattle.svid_replay.proofs.PartsLemmas.{cut_gives_parts}
use Rattle.svid_replay.proofs.laws.uses_are_cut_into_full_batches.Goals as goal

pub returns : goal.returns
returns c = cut_gives_parts
