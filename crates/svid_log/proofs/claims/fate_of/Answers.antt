use Rattle.std.proofs.Common.{rules, sym, ◌∙◌}
use Rattle.svid_log.proofs.StepsLemmas.{unused_is_not_withdrawn}
use Rattle.svid_log.proofs.claims.fate_of.Goals as goal

pub returns-then-has-2-clause-fate : goal.returns-then-has-2-clause-fate
returns-then-has-2-clause-fate g c = rw (unused_is_not_withdrawn _ _ (sym c.has.ensures ∙ c.if-has.false)) (search rules)

pub returns-clause-fate : goal.returns-clause-fate
returns-clause-fate g c = rw (unused_is_not_withdrawn _ _ (sym c.has.ensures ∙ c.if-has.false)) (search rules)
