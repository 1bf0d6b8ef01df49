use Rattle.svid_c.proofs.SpkiLemmas.{none_named}
use Rattle.svid_c.proofs.key_spki.alg_of.Goals as goal

pub returns-in-Err : goal.returns-in-Err
returns-in-Err c = none_named c.args.name.now c.in-Err.ensures.cases.0
