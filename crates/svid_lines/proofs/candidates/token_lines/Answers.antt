use Rattle.std.proofs.Common.{sym}
use Rattle.std.proofs.lemmas.Result.{err_from_is_err_and}
use Rattle.svid_lines.proofs.CandidatesLemmas.{lines_found, refused_keys, refused_token}
use Rattle.svid_lines.proofs.candidates.token_lines.Goals as goal

pub returns-in_err-reading : goal.returns-in_err-reading
returns-in_err-reading c =
    let p = err_from_is_err_and c.from_residual.result c.from_residual.ensures.1 in
    rw (p.1, p.2) (refused_token _ _ _ c.in_err-reading.ensures.value)

pub returns-in_err-candidates : goal.returns-in_err-candidates
returns-in_err-candidates c =
    let p = err_from_is_err_and c.from_residual-in_err-candidates.result c.from_residual-in_err-candidates.ensures.1 in
    rw (p.1, p.2) (refused_keys _ _ _ _ c.in_ok-reading.ensures.value (sym c.in_err-candidates.ensures))

pub returns : goal.returns
returns c = lines_found _ _ _ _ _ c.in_ok-reading.ensures.value (sym c.in_ok-candidates.ensures) c.in_ok-candidate_lines.ensures
