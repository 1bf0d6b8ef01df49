use Rattle.std.proofs.Common.{refl, ap, ◌∙◌}
use Rattle.svid_c.specs.Joined.{summary_text_of}
use Rattle.svid_c.specs.Live.{written}
use Rattle.svid_c.proofs.validator_tell.sum.Goals as goal

pub returns-in-Ok : goal.returns-in-Ok
returns-in-Ok c = written c.bytes.result.now (c.bytes.ensures ∙ c.in-Ok.ensures ∙ ap summary_text_of c.replay.ensures.value) c.put.ensures.put c.put.ensures.told refl
