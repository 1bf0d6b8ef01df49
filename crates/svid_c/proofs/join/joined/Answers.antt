use Rattle.std.proofs.Common.{◌∙◌}
use Rattle.svid_c.proofs.JoinedLemmas.{both}
use Rattle.svid_c.proofs.join.joined.Goals as goal

pub returns-clause-ok : goal.returns-clause-ok
returns-clause-ok c = both _ _ _ _ _ _ _ _ c.new-record.ensures c.in_ok-join_lent.ensures.ok c.in_ok-join_lent-2.ensures.ok (c.compact.ensures ∙ c.raise.ensures.joined) c.in_ok-text_of.ensures
