use Rattle.svid_allow.proofs.AllowsLemmas.{id_answer}
use Rattle.svid_allow.proofs.pattern.same_id.Goals as goal

pub returns : goal.returns
returns c = id_answer _ _ _ _ _ c.as_str.ensures.id c.as_str-2.ensures.id c.eq.ensures
