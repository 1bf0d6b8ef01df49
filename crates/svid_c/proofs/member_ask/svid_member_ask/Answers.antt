use Rattle.std.proofs.Common.{Some, ap, sym, ◌∙◌}
use Rattle.svid_c.proofs.TrustLemmas.{held_token}
use Rattle.svid_c.proofs.member_ask.svid_member_ask.Goals as goal

pub returns : goal.returns
returns c = record {
  stays = c.put.ensures ∙ c.in-Some.ensures.value;
  does = held_token _ _ _ _ _ c.deref.result.now (sym c.in-Some.ensures.value ∙ ap Some (sym c.deref.ensures)) c.ask_held-status.ensures;
}
