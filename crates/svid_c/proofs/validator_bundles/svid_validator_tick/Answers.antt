use Rattle.svid_c.proofs.LiveLemmas.{called, not_called}
use Rattle.svid_c.proofs.validator_bundles.svid_validator_tick.Goals as goal

pub returns-in-Err : goal.returns-in-Err
returns-in-Err c = not_called _ _ _ _ _ _ _ _ c.in-Err.ensures.not_taken c.only.ensures.status c.only.ensures.told tt

pub returns : goal.returns
returns c =
    called _ _ _ _ _ _ _ _ _ _ _ c.in-Ok.ensures.taken c.deref_mut.ensures.value c.put.ensures c.tick-status.ensures.rest c.tick-status.ensures.does
