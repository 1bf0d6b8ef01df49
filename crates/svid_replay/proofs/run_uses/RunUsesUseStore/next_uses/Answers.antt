use Rattle.std.proofs.Common.{◌∙◌, ap}
use Rattle.svid_replay.specs.Runs.{all_of}
use Rattle.svid_replay.specs.Uses.{Uses, uses_in}
use Rattle.svid_replay.specs.Walks.{next_few}
use Rattle.svid_replay.proofs.run_uses.RunUsesUseStore.next_uses.Goals as goal

pub returns : goal.returns
returns c = c.merge_next.ensures ∙ ap (λ rs. next_few (uses_in (all_of rs)) c.args.after) c.deref.ensures.value ∙ ap (λ (s : Uses). next_few s c.args.after) c.self.view_is
