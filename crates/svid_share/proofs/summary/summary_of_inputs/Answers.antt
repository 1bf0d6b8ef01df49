use Rattle.svid_share.proofs.WrittenLemmas.{summarized}
use Rattle.svid_share.proofs.summary.summary_of_inputs.Goals as goal

pub returns-clause-ok : goal.returns-clause-ok
returns-clause-ok g c = summarized _ _ _ c.in_ok-record.ensures.ok c.summary.ensures
