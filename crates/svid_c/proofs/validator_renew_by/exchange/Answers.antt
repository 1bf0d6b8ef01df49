use Rattle.std.proofs.Common.{Some, sym, ap}
use Rattle.svid_c.specs.Trust.{exchanged}
use Rattle.svid_c.proofs.validator_renew_by.exchange.Goals as goal

pub returns-in-Some-clause-does : goal.returns-in-Some-clause-does
returns-in-Some-clause-does c = exchanged c.in-Some.bundles (sym c.in-Some.ensures.value) (ap Some c.replace_bundles-before.ensures.before) c.replace_bundles-before.ensures.state c.only.ensures.status c.only.ensures.told
