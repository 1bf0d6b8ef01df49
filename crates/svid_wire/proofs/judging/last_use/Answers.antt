use Rattle.std.proofs.Common.{◌∙◌}
use Rattle.svid_wire.proofs.StageLemmas.{last_of-None}
use Rattle.svid_wire.proofs.judging.last_use.Goals as goal

pub returns : goal.returns
returns c = c.copied.ensures ∙ c.last.ensures.value ∙ last_of-None c.args.uses.now
