-- Runs of one validator over any list of events. A relation, since memory may be refused inside an event.
use Rattle.std.specs.Prelude.{◌≡◌, ℕ, List, [], ◌∷◌, Result, Some}
use Rattle.svid_token.specs.Rows.{Answers}
use Rattle.svid_token.specs.declared.refusal.Refusal.{Refusal}
use Rattle.svid_replay.specs.Records.{State}
use Rattle.svid_replay.specs.Uses.{live}
use Rattle.svid_check.specs.declared.accepted.Accepted.{Accepted}
use Rattle.svid_check.specs.declared.answer.Answer.{Answer}
use Rattle.svid_check.specs.declared.answer.Answer.TheVariants.{Checked, Ticked, Taken, Withdrawn}
use Rattle.svid_check.specs.declared.event.Event.{Event}
use Rattle.svid_check.specs.declared.event.Event.TheVariants.{Check, Tick, Take, Withdraw}
use Rattle.svid_check.specs.Changes.{IsWithdrawal, horizon, withdrawn_in}
use Rattle.svid_check.specs.Said.{RefusesForm}
use Rattle.svid_check.specs.Setting.{Says, Setting, Held, setting_of}
use Rattle.svid_check.specs.Told.{Told, TellsBatch, record_of, tell_now, tell_one, tell_use}
use Rattle.svid_check.specs.Verdict.{verdict}

-- what a run depends on, beside the record: the setting of the checks, and how far ahead a take may be
pub record Terms : Type 0 where
  pub setting : Setting
  pub ahead : ℕ

-- the terms of a validator, where this is what verifiers say
abbrev pub terms_of : {V : Type 0} → (V → Says) → Held V → Terms
terms_of says held = record { setting = setting_of says held; ahead = held.ahead }

-- the check answers the verdict for the greatest moment learned and the live uses learned, or that it is out of memory, but the latter never instead
-- of a refusal for the token's form
abbrev pub IsAnswered : Setting → Told → List ℕ → Result Accepted Refusal → Type 0
IsAnswered s x token answer = Answers Some answer (verdict s x.greatest (live x.uses x.greatest) token) × RefusesForm token answer

-- a validator that had learned x may give the event this answer, and then has learned y
abbrev pub Step : Terms → Told → Event → Answer → Told → Type 0
Step t x (Check now token) (Checked answer) y = IsAnswered t.setting (tell_now x now) token.now answer × (y ≡ tell_use (tell_now x now) answer)
Step t x (Tick now) Ticked y = y ≡ tell_now x now
Step t x (Take now batch) (Taken answer) y = TellsBatch (tell_now x now) (horizon now t.ahead) batch.now answer y
Step t x (Withdraw now key exp) (Withdrawn answer) y = IsWithdrawal t.setting.validator_id (tell_now x now).greatest key exp answer × (y ≡ tell_one (tell_now x now) (withdrawn_in answer))
Step t x _ _ y = ⊥

-- it may give the events these answers, one for each in their order, and then has learned y
abbrev pub Runs : Terms → Told → List Event → List Answer → Told → Type 0
Runs t x [] [] y = y ≡ x
Runs t x (event ∷ events) (answer ∷ answers) y = (mid : Told) × Step t x event answer mid × Runs t mid events answers y
Runs t x _ _ y = ⊥

-- for whatever was learned that gives the record a: the events may get these answers, and what is then learned gives the record b
abbrev pub RunsFrom : Terms → State → List Event → List Answer → State → Type 0
RunsFrom t a events answers b = (x : Told) → record_of x ≡ a → (y : Told) × Runs t x events answers y × (record_of y ≡ b)
