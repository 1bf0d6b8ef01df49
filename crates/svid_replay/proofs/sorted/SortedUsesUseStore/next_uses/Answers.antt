use Rattle.std.proofs.Common.{◌∙◌, ◌++◌, ap, sym, take}
use Rattle.std.specs.List.{filter}
use Rattle.svid_replay.specs.Batches.{is_after}
use Rattle.svid_replay.proofs.UsesLemmas.{stored}
use Rattle.svid_replay.proofs.sorted.SortedUsesUseStore.next_uses.Goals as goal

pub returns : goal.returns
returns c =
    c.extend.ensures ∙ (λ i. take 64 (c.clear.ensures i ++ c.rest_after.ensures i)) ∙ ap (λ us. take 64 (filter (is_after c.args.after) us)) (c.deref.ensures.value ∙ sym (stored _ _ c.self.invariant c.self.view_is))
