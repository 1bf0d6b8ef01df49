use Rattle.std.proofs.Common.{Some, ap, sym, ◌∙◌}
use Rattle.svid_c.proofs.TrustLemmas.{held_reads}
use Rattle.svid_c.proofs.bundles_judge.svid_bundles_judge.Goals as goal

pub returns : goal.returns
returns c = record {
  stays = c.put.ensures ∙ ap Some (c.judge_held-status.ensures.stays ∙ c.deref_mut.ensures.value) ∙ c.in-Some.ensures.value;
  does = held_reads _ _ _ _ _ _ (sym c.in-Some.ensures.value ∙ ap Some (sym c.deref_mut.ensures.value)) c.judge_held-status.ensures.does;
}
