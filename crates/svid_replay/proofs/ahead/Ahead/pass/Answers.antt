use Rattle.svid_replay.proofs.WalksLemmas.{last_is}
use Rattle.svid_replay.proofs.ahead.Ahead.pass.Goals as goal

pub returns-in-len1-up-clause-after : goal.returns-in-len1-up-clause-after
returns-in-len1-up-clause-after c = last_is _ c.args.uses.now _ c.in-len1-up.len_at_least
