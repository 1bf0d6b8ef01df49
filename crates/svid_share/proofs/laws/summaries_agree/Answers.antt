use Rattle.svid_share.proofs.JoinedLemmas.{summarized_by_which}
use Rattle.svid_share.proofs.laws.summaries_agree.Goals as goal

pub returns : goal.returns
returns c = summarized_by_which
