use Rattle.std.proofs.Common.{sym, ◌∙◌}
use Rattle.svid_log.proofs.StepsLemmas.{with_sound}
use Rattle.svid_log.proofs.claims.Claims.put.Goals as goal

pub invariant_of-self-then-is_live-2 : goal.invariant_of-self-then-is_live-2
invariant_of-self-then-is_live-2 g c = rw c.in_ok-insert.ensures.ok (with_sound _ _ c.is_live.ensures.fields (sym c.is_live-then-is_live.ensures.live ∙ c.if-is_live-2.true) c.self.invariant)
