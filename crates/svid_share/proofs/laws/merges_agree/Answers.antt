use Rattle.svid_share.proofs.JoinedLemmas.{merged_by_which}
use Rattle.svid_share.proofs.laws.merges_agree.Goals as goal

pub returns : goal.returns
returns c = merged_by_which
