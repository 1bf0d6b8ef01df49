use Rattle.svid_replay.proofs.WalksLemmas.{last_is}
use Rattle.svid_shards.proofs.store_walk.last_of.Goals as goal

pub returns-in-len1-up : goal.returns-in-len1-up
returns-in-len1-up c = last_is _ c.args.uses.now _ c.in-len1-up.len_at_least
