use Rattle.std.proofs.Common.{refl, arith}
use Rattle.svid_c.specs.Alone.{bad, good}
use Rattle.svid_c.proofs.bundles_judge.tell.Goals as goal

pub returns-in-Ok : goal.returns-in-Ok
returns-in-Ok c = good c.in-Ok.accepted (omega arith) c.in-Ok.is c.accept_whole.ensures.status c.accept_whole.ensures.told c.accept_whole.ensures.put c.accept_whole.ensures.used

pub returns-in-Err : goal.returns-in-Err
returns-in-Err c = bad c.in-Err.refusal (omega arith) c.in-Err.is c.refuse_token.ensures.number c.refuse_token.ensures.told refl refl
