use Rattle.std.proofs.Common.{Some, sym, ap, ◌∙◌}
use Rattle.svid_c.proofs.TrustLemmas.{held_exchanges}
use Rattle.svid_c.proofs.validator_renew_by.exchange_held.Goals as goal

pub returns-clause-does : goal.returns-clause-does
returns-clause-does c = held_exchanges _ _ _ _ _ _ _ _ (sym c.in-Some.ensures.value ∙ ap Some (sym c.deref_mut.ensures.value)) c.put.ensures c.exchange-status.ensures.does
