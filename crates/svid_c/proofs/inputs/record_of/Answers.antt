use Rattle.std.proofs.Common.{◌∙◌}
use Rattle.svid_c.proofs.JoinedLemmas.{one}
use Rattle.svid_c.proofs.inputs.record_of.Goals as goal

pub returns-clause-ok : goal.returns-clause-ok
returns-clause-ok c = one _ _ _ _ _ c.new-record.ensures c.in_ok-join_lent.ensures.ok (c.compact.ensures ∙ c.raise.ensures.joined)
