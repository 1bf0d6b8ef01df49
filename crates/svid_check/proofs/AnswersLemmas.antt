-- A check answers the verdict, or that it is out of memory.
use Rattle.std.proofs.Common.{◌≡◌, ◌≢◌, ℕ, Bool, true, false, List, Option, Some, None, refl, ap}
use Rattle.std.specs.Prelude.{Result, Ok, Err, option_map}
use Rattle.svid_token.specs.Compact.{compact_rows, parts_of}
use Rattle.svid_token.specs.Rows.{Answers, Refuses, first_row, seen}
use Rattle.svid_token.specs.declared.refusal.Refusal.{Refusal}
use Rattle.svid_replay.specs.Records.{State}
use Rattle.svid_replay.specs.Uses.{Uses}
use Rattle.svid_check.specs.declared.accepted.Accepted.{Accepted}
use Rattle.svid_check.specs.Lawful.{Accepts}
use Rattle.svid_check.specs.Said.{RefusesForm, rows_if_three, said_of, token_rows}
use Rattle.svid_check.specs.Setting.{Setting}
use Rattle.svid_check.specs.Verdict.{acceptance, rows_if_said, setting_rows, verdict, verdict_rows}
use Rattle.svid_check.specs.World.{answer_by, check_answer, form_or_memory}
use Rattle.svid_check.proofs.RowsLemmas.{judged-Some, refused, stops}
use Rattle.svid_check.proofs.VerdictLemmas.{not_of_nothing}

accepted_by : (due : Result (Option Accepted) Refusal) (accepted : Accepted) → answer_by due ≡ Ok accepted → due ≡ Ok (Some accepted)
accepted_by (Ok (Some other)) accepted is = cc
accepted_by (Ok None) accepted is = absurd (cc)
accepted_by (Err refusal) accepted is = absurd (cc)

-- a check that accepts does so by the verdict
pub accepted_is : (s : Setting) (x : State) (token : List ℕ) (refused : Bool) (accepted : Accepted) → check_answer s x token refused ≡ Ok accepted → Accepts s x.moment x.uses token accepted.used
accepted_is s x token true accepted is = absurd (cc)
accepted_is s x token false accepted is = (accepted, accepted_by (verdict s x.moment x.uses token) accepted is, refl)

-- the verdict on a token whose form is refused is that refusal
pub refused_form : (s : Setting) (moment : ℕ) (uses : Uses) (token : List ℕ) (refusal : Refusal) → first_row (compact_rows token) ≡ Some refusal → verdict s moment uses token ≡ Err refusal
unfolding verdict
refused_form s moment uses token refusal is =
    judged-Some (first_row (verdict_rows s moment uses token)) (option_map (acceptance s moment) (said_of token)) refusal
    (stops (token_rows token) (rows_if_said (setting_rows s moment uses) (said_of token)) refusal (stops (compact_rows token) (rows_if_three (parts_of token)) refusal is))

by_memory : (form : Option Refusal) (due : Result (Option Accepted) Refusal) → ((refusal : Refusal) → form ≡ Some refusal → due ≡ Err refusal) → Refuses (form_or_memory form) due
by_memory None due is = tt
by_memory (Some refusal) due is = refused refusal due (is refusal refl)

by_verdict : (due : Result (Option Accepted) Refusal) → Answers Some (answer_by due) due
by_verdict (Ok (Some accepted)) = refl
by_verdict (Ok None) = tt
by_verdict (Err refusal) = refused refusal (Err refusal) refl

-- a check answers the verdict, or that it is out of memory, but the latter never instead of a refusal for the
-- token's form
pub answers_verdict : (s : Setting) (x : State) (token : List ℕ) (refused : Bool)
    → Answers Some (check_answer s x token refused) (verdict s x.moment x.uses token) × RefusesForm token (check_answer s x token refused)
answers_verdict s x token true =
    let due = refused_form s x.moment x.uses token in (
      by_memory (first_row (compact_rows token)) (verdict s x.moment x.uses token) due,
      λ refusal is. ap (λ form. Err (form_or_memory form)) is,
    )
answers_verdict s x token false = (by_verdict (verdict s x.moment x.uses token), λ refusal is. ap answer_by (refused_form s x.moment x.uses token refusal is))

seen_whole : (due : Result (Option Accepted) Refusal) → due ≢ Ok None → seen Some (answer_by due) ≡ due
seen_whole (Ok (Some accepted)) some = refl
seen_whole (Ok None) some = absurd (some refl)
seen_whole (Err refusal) some = refl

-- and by nothing but the verdict where no memory is refused
pub with_memory : (s : Setting) (x : State) (token : List ℕ) → seen Some (check_answer s x token false) ≡ verdict s x.moment x.uses token
with_memory s x token = seen_whole (verdict s x.moment x.uses token) (not_of_nothing s x.moment x.uses token)
