use Rattle.svid_log.proofs.StepsLemmas.{none_sound}
use Rattle.svid_log.proofs.claims.Claims.new.Goals as goal

pub invariant_of-result : goal.invariant_of-result
invariant_of-result g c = none_sound _ c.requires
