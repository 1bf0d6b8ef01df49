use Rattle.std.proofs.Common.{refl}
use Rattle.svid_c.specs.Token.{not_read, was_read}
use Rattle.svid_c.proofs.token_open.open.Goals as goal

pub returns-in-Ok : goal.returns-in-Ok
returns-in-Ok c = was_read c.in-Ok.read.value refl c.in-Ok.ensures.ok c.put.ensures c.only.ensures.status c.only.ensures.told

pub returns-in-Err : goal.returns-in-Err
returns-in-Err c = not_read c.in-Err.refusal refl c.requires c.in-Err.ensures.fault c.in-Err.ensures.form c.refuse_token.ensures.number c.refuse_token.ensures.told
