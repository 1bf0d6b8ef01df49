use Rattle.std.proofs.Common.{◌∙◌, ap, slice_get}
use Rattle.svid_replay.specs.Batches.{is_after}
use Rattle.svid_replay.proofs.UsesLemmas.{find_kept}
use Rattle.svid_replay.proofs.sorted.first_near.Goals as goal

pub returns : goal.returns
returns c = c.first.ensures.value ∙ ap (λ us. slice_get us 0) c.rest_near.ensures ∙ find_kept (is_after c.args.after.now) c.args.uses.now
