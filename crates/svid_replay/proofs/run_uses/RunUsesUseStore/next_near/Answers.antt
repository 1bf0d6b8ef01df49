use Rattle.std.proofs.Common.{◌∙◌, None, ap}
use Rattle.svid_replay.specs.Runs.{least_from}
use Rattle.svid_replay.proofs.RunsLemmas.{store_next}
use Rattle.svid_replay.proofs.run_uses.RunUsesUseStore.next_near.Goals as goal

pub returns : goal.returns
returns c = store_next c.args.after _ c.self.inside.runs.items _ c.self.view_is (c.least_near.ensures ∙ ap (λ rs. least_from c.args.after rs None) c.deref.ensures.value)
