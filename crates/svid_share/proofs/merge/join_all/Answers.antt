use Rattle.svid_share.proofs.WrittenLemmas.{merged}
use Rattle.svid_share.proofs.merge.join_all.Goals as goal

pub returns-clause-ok : goal.returns-clause-ok
returns-clause-ok g c = merged _ _ _ _ c.in_ok-record.ensures.ok c.raise_to.ensures
