use Rattle.svid_lines.proofs.CandidatesLemmas.{answer_wants}
use Rattle.svid_lines.proofs.MemoryLemmas.{where_wanted}
use Rattle.svid_lines.proofs.candidates.text_of_inputs.Goals as goal

pub returns-in_err-answer-clause-memory : goal.returns-in_err-answer-clause-memory
returns-in_err-answer-clause-memory g c =
    where_wanted _ _ (answer_wants _ _ c.in_ok-bundles.bundles c.in_ok-lines.lines.items c.in_ok-bundles.ensures.ok c.in_ok-lines.ensures.ok)
