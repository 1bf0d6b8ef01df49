use Rattle.std.proofs.Common.{Some, ap, sym, ◌∙◌}
use Rattle.svid_c.proofs.TrustLemmas.{held_reads}
use Rattle.svid_c.proofs.bundles_question.svid_bundles_question.Goals as goal

pub returns : goal.returns
returns c = record {
  stays = c.put.ensures ∙ c.in-Some.ensures.value;
  does = held_reads _ _ _ _ _ _ (sym c.in-Some.ensures.value ∙ ap Some (sym c.deref.ensures)) c.ask_held-status.ensures;
}
