use Rattle.std.proofs.Common.{◌++◌, ℕ, List, ap, length, refl, sym, take, ◌∙◌}
use Rattle.std.specs.List.{flat_map}
use Rattle.svid_keys.specs.Candidates.{candidates_left}
use Rattle.svid_check.specs.Said.{said_in}
use Rattle.svid_c.specs.Status.{told_rows}
use Rattle.svid_c.specs.Trust.{key_row, listed, no_memory, unknown, unread}
use Rattle.svid_c.proofs.LiveLemmas.{as_form}
use Rattle.svid_c.proofs.bundles_ask.list.Goals as goal

pub returns-in-Err : goal.returns-in-Err
returns-in-Err c = unread c.in-Err.refusal c.in-Err.ensures.value (as_form c.args.token.now c.in-Err.refusal c.in-Err.ensures.early) c.refuse_token.ensures.number c.refuse_token.ensures.told refl

pub returns-in-Err-candidates : goal.returns-in-Err-candidates
returns-in-Err-candidates c =
    unknown (said_in c.in-Ok.reading) c.in-Err-candidates.refusal c.in-Ok.ensures.value (sym c.in-Err-candidates.ensures)
    c.refuse_token-in-Err-candidates.ensures.number c.refuse_token-in-Err-candidates.ensures.told refl

pub returns-in-Ok-push_keys : goal.returns-in-Ok-push_keys
returns-in-Ok-push_keys c =
    listed (said_in c.in-Ok.reading) (candidates_left c.in-Ok-candidates.candidates) c.deref.result.now c.in-Ok.ensures.value (sym c.in-Ok-candidates.ensures)
    (c.deref.ensures.value ∙ c.in-Ok-push_keys.ensures.rows
    ∙ ap (λ (start : List ℕ). start ++ flat_map (key_row c.in-Ok.reading.header.alg) (take c.args.most (candidates_left c.in-Ok-candidates.candidates))) c.new-rows.ensures.items)
    c.put_rows.ensures.put (c.put_rows.ensures.told ∙ ap (told_rows (length c.deref.result.now)) c.in-Ok-push_keys.ensures.more)

pub returns : goal.returns
returns c =
    no_memory (said_in c.in-Ok.reading) (candidates_left c.in-Ok-candidates.candidates) c.in-Ok.ensures.value (sym c.in-Ok-candidates.ensures)
    c.refuse_token-in-Err-push_keys.ensures.number c.refuse_token-in-Err-push_keys.ensures.told refl
