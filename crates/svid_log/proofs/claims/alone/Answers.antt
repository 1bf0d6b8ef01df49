use Rattle.svid_log.proofs.SavesLemmas.{alone_is_batch}
use Rattle.svid_log.proofs.claims.alone.Goals as goal

pub from_good-requires : goal.from_good-requires
from_good-requires c = rw c.in_ok-push.ensures.items (rw c.new-uses.ensures.items (alone_is_batch _ c.requires))
