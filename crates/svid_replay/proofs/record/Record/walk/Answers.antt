use Rattle.std.proofs.Common.{◌∙◌, sym}
use Rattle.svid_replay.proofs.UsesLemmas.{walk_none}
use Rattle.svid_replay.proofs.record.Record.walk.Goals as goal

pub returns : goal.returns
returns g c = c.of.ensures ∙ sym (walk_none _).parts
