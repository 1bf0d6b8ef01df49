use Rattle.std.proofs.Common.{Some, sym, ap, ◌∙◌}
use Rattle.svid_c.specs.Peers.{did_deed}
use Rattle.svid_c.proofs.member_due.svid_member_due.Goals as goal

pub returns : goal.returns
returns c = did_deed _ _ (sym c.in-Some.ensures.value ∙ ap Some (sym c.deref.ensures)) (c.put.ensures ∙ ap Some (sym c.deref.ensures)) c.due-status.ensures
