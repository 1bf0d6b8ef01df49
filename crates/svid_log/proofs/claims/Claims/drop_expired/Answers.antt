use Rattle.svid_log.proofs.StepsLemmas.{live_sound}
use Rattle.svid_log.proofs.claims.Claims.drop_expired.Goals as goal

pub invariant_of-self : goal.invariant_of-self
invariant_of-self g c = rw c.tidy.ensures (rw c.drop_expired.ensures.kept (live_sound _ _ c.self.invariant))
