use Rattle.std.proofs.Common.{refl}
use Rattle.svid_c.proofs.LiveLemmas.{handle_called, not_called}
use Rattle.svid_c.proofs.member_ask.ask_held.Goals as goal

pub returns-in-Err : goal.returns-in-Err
returns-in-Err c = not_called _ _ _ _ _ _ _ _ c.in-Err.ensures.not_taken c.only.ensures.status c.only.ensures.told (refl, (refl, refl))

pub returns : goal.returns
returns c = handle_called _ _ _ _ _ _ _ _ _ _ _ c.in-Ok.ensures.taken c.deref_mut.ensures.value c.put.ensures c.ask-status.ensures
