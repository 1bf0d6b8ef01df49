use Rattle.std.proofs.Common.{refl}
use Rattle.svid_c.specs.Bearer.{borne, not_borne}
use Rattle.svid_c.proofs.bearer_token.svid_bearer_token.Goals as goal

pub returns-in-Ok : goal.returns-in-Ok
returns-in-Ok c = borne _ c.in-Ok.ensures refl refl

pub returns-in-Err : goal.returns-in-Err
returns-in-Err c = not_borne c.in-Err.why c.in-Err.ensures c.bearer_number.ensures refl
