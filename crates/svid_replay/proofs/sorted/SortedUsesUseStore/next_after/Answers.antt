use Rattle.std.proofs.Common.{◌∙◌, ap, sym}
use Rattle.std.specs.List.{find}
use Rattle.svid_replay.specs.Batches.{is_after}
use Rattle.svid_replay.proofs.UsesLemmas.{stored}
use Rattle.svid_replay.proofs.sorted.SortedUsesUseStore.next_after.Goals as goal

pub returns : goal.returns
returns c =
    c.first_after.ensures ∙ ap (find (is_after c.args.after)) (c.deref.ensures.value ∙ sym (stored _ _ c.self.invariant c.self.view_is))
