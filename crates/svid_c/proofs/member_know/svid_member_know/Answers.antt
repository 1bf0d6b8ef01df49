use Rattle.std.proofs.Common.{Some, sym, ap, ◌∙◌}
use Rattle.svid_c.specs.Peers.{did}
use Rattle.svid_c.proofs.member_know.svid_member_know.Goals as goal

pub returns : goal.returns
returns c = did _ _ (sym c.in-Some.ensures.value ∙ ap Some (sym c.deref_mut.ensures.value)) c.put.ensures c.know-status.ensures
