use Rattle.std.proofs.Common.{sym, ◌∙◌}
use Rattle.svid_c.specs.Trust.{held_already}
use Rattle.svid_c.proofs.bundles_open.svid_bundles_open.Goals as goal

pub returns-in-Some : goal.returns-in-Some
returns-in-Some c = held_already c.in-Some.trust.value (sym c.in-Some.ensures.value) (c.put.ensures ∙ c.in-Some.ensures.value) c.only.ensures.status c.only.ensures.told
