use Rattle.svid_keys.proofs.TableLemmas.{is_among_inserted}
use Rattle.svid_keys.proofs.table_verifier.add_question.Goals as goal

pub returns : goal.returns
returns c = λ q. is_among_inserted q c.args.question _ _ (c.in_ok-insert.ensures.updates.0 q)
