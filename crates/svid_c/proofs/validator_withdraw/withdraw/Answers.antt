use Rattle.std.proofs.Common.{refl}
use Rattle.svid_c.specs.Live.{withdrawn}
use Rattle.svid_c.proofs.validator_withdraw.withdraw.Goals as goal

pub returns-in-Ok-clause-does : goal.returns-in-Ok-clause-does
returns-in-Ok-clause-does c = withdrawn c.in-Ok.withdrawn c.in-Ok.ensures.answer.1 c.in-Ok.ensures.answer.0 refl c.told_length.ensures c.use_seen.ensures c.in-Ok.ensures.state
