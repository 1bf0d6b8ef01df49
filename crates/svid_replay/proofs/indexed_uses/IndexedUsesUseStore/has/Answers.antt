use Rattle.std.proofs.Common.{◌∙◌, ap, sym}
use Rattle.std.specs.List.{list_any}
use Rattle.svid_replay.specs.Twice.{has_key}
use Rattle.svid_replay.proofs.UsesLemmas.{stored}
use Rattle.svid_replay.proofs.indexed_uses.IndexedUsesUseStore.has.Goals as goal

pub returns : goal.returns
returns c =
    c.has_from.ensures c.self.inside.by_use.keys c.self.invariant ∙ ap (list_any (has_key c.args.key.now)) (sym (stored _ _ c.self.invariant.rising c.self.view_is))
