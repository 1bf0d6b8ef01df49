use Rattle.std.proofs.Common.{sym, ap, ◌∙◌, length}
use Rattle.svid_replay.proofs.UsesLemmas.{stored}
use Rattle.svid_replay.proofs.indexed_uses.IndexedUsesUseStore.len.Goals as goal

pub returns : goal.returns
returns c = c.len.ensures.len ∙ ap length (sym (stored _ _ c.self.invariant.rising c.self.view_is))
