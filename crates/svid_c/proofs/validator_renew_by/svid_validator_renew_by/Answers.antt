use Rattle.std.proofs.Common.{Some, sym, ap, ◌∙◌}
use Rattle.svid_c.specs.Live.{does}
use Rattle.svid_c.proofs.validator_renew_by.svid_validator_renew_by.Goals as goal

pub returns : goal.returns
returns c = does _ _ (sym c.in-Some.ensures.value ∙ ap Some (sym c.deref_mut.ensures.value)) c.put.ensures (c.exchange_held-status.ensures.rest, c.exchange_held-status.ensures.does)
