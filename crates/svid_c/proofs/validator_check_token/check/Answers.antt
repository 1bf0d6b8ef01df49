use Rattle.std.proofs.Common.{refl, rules}
use Rattle.svid_c.specs.Live.{accepted, refused}
use Rattle.svid_c.proofs.validator_check_token.check.Goals as goal

pub returns-in-Ok : goal.returns-in-Ok
returns-in-Ok c = accepted c.in-Ok.accepted (search rules) c.in-Ok.ensures.answer c.accept_whole.ensures.status c.accept_whole.ensures.told c.accept_whole.ensures.put c.accept_whole.ensures.used c.in-Ok.ensures.gained

pub returns-in-Err : goal.returns-in-Err
returns-in-Err c = refused c.in-Err.refusal (search rules) c.in-Err.ensures.answer c.refusal_number.ensures c.told_length-in-Err.ensures refl refl c.in-Err.ensures.raised
