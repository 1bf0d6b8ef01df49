use Rattle.std.proofs.Common.{refl, ◌∙◌}
use Rattle.svid_c.specs.Log.{beside}
use Rattle.svid_c.proofs.validator_log.write_beside.Goals as goal

pub returns-in-Ok : goal.returns-in-Ok
returns-in-Ok c = beside c.in-Some.member c.bytes.result.now c.in-Some.is (c.bytes.ensures ∙ c.in-Ok.ensures) c.put.ensures.put c.put.ensures.told refl
