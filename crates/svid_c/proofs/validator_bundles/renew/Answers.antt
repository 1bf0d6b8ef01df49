use Rattle.svid_c.specs.Live.{unrenewed, renewed}
use Rattle.std.proofs.Common.{refl}
use Rattle.svid_c.proofs.validator_bundles.renew.Goals as goal

pub returns-in-Ok-clause-does : goal.returns-in-Ok-clause-does
returns-in-Ok-clause-does c = renewed c.in-Ok.bundles c.in-Ok.ensures.ok refl c.told_length.ensures c.replace_bundles-before.ensures.state

pub returns-in-Err-clause-does : goal.returns-in-Err-clause-does
returns-in-Err-clause-does c = unrenewed c.refuse_bundles.ensures refl
