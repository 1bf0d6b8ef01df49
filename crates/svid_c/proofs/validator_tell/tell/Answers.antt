use Rattle.std.proofs.Common.{refl, ap, ◌∙◌}
use Rattle.svid_wire.specs.RecordText.{record_text}
use Rattle.svid_c.specs.Live.{written}
use Rattle.svid_c.proofs.validator_tell.tell.Goals as goal

pub returns-in-Ok : goal.returns-in-Ok
returns-in-Ok c = written c.bytes.result.now (c.bytes.ensures ∙ c.in-Ok.ensures ∙ ap record_text c.replay.ensures.value) c.put.ensures.put c.put.ensures.told refl
