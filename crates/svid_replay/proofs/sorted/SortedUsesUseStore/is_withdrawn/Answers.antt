use Rattle.std.proofs.Common.{◌∙◌, ap, sym}
use Rattle.std.specs.List.{list_any}
use Rattle.svid_replay.specs.Twice.{withdraws}
use Rattle.svid_replay.proofs.UsesLemmas.{stored}
use Rattle.svid_replay.proofs.sorted.SortedUsesUseStore.is_withdrawn.Goals as goal

pub returns : goal.returns
returns c =
    c.has_sought.ensures ∙ ap (list_any (withdraws c.args.key.now)) (c.deref.ensures.value ∙ sym (stored _ _ c.self.invariant c.self.view_is))
