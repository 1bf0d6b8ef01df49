use Rattle.std.proofs.Common.{◌∙◌, sym}
use Rattle.svid_replay.proofs.WalksLemmas.{walk_ends}
use Rattle.svid_replay.proofs.record.Record.uses.Goals as goal

pub returns : goal.returns
returns g c = c.loop-used.invariant ∙ sym (walk_ends _ _ _ _ _ c.walk-used-items.ensures c.into_iter-used-iterator.ensures.into_iter_gives c.loop-used.yielded_by c.in-None.ensures.steps.0)
