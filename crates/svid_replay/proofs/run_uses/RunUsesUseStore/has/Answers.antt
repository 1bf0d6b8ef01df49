use Rattle.std.proofs.Common.{◌∙◌, ap, false}
use Rattle.std.specs.List.{list_any}
use Rattle.svid_replay.specs.Indexed.{is_sought}
use Rattle.svid_replay.specs.Runs.{all_of}
use Rattle.svid_replay.proofs.RunsLemmas.{runs_has}
use Rattle.svid_replay.proofs.run_uses.RunUsesUseStore.has.Goals as goal

pub returns : goal.returns
returns c = runs_has (is_sought false c.args.key.now) c.self.inside.runs.items _ _ c.self.view_is (c.any_has.ensures ∙ ap (λ rs. list_any (is_sought false c.args.key.now) (all_of rs)) c.deref.ensures.value)
