use Rattle.std.proofs.Common.{rules}
use Rattle.svid_replay.proofs.UsesLemmas.{stored}
use Rattle.svid_replay.proofs.sorted.SortedUsesUseStore.len.Goals as goal

pub returns : goal.returns
returns c = rw (stored _ _ c.self.invariant c.self.view_is) (search rules)
