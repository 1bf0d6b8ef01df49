use Rattle.std.proofs.Common.{Some, sym, ap, ◌∙◌}
use Rattle.svid_c.specs.Peers.{did_deed}
use Rattle.svid_c.proofs.withdrawal_come.svid_withdrawal_overdue.Goals as goal

pub returns : goal.returns
returns c = did_deed _ _ (sym c.in-Some.ensures.value ∙ ap Some (sym c.deref_mut.ensures.value)) c.put.ensures c.give_up-status.ensures
