-- How runs are made of the calls of a validator.
use Rattle.std.specs.Prelude.{◌≡◌, ℕ, List, [], ◌∷◌, ◌++◌, Result, Some, Vec}
use Rattle.std.specs.declared.alloc.Global.{Global}
use Rattle.std.specs.Borrow.{Bor}
use Rattle.svid_token.specs.Rows.{Answers}
use Rattle.svid_token.specs.declared.refusal.Refusal.{Refusal}
use Rattle.svid_replay.specs.Buckets.{raised_to}
use Rattle.svid_replay.specs.declared.token_use.Use.{Use}
use Rattle.svid_replay.specs.Batches.{BatchData}
use Rattle.svid_replay.specs.Records.{State}
use Rattle.svid_replay.specs.Summary.{SummaryData}
use Rattle.svid_check.specs.declared.accepted.Accepted.{Accepted}
use Rattle.svid_check.specs.declared.answer.Answer.{Answer}
use Rattle.svid_check.specs.declared.answer.Answer.TheVariants.{Checked, Ticked, Taken, Withdrawn}
use Rattle.svid_check.specs.declared.event.Event.{Event}
use Rattle.svid_check.specs.declared.event.Event.TheVariants.{Check, Tick, Take, Withdraw}
use Rattle.svid_check.specs.declared.take_fault.TakeFault.{TakeFault}
use Rattle.svid_check.specs.declared.withdraw_fault.WithdrawFault.{WithdrawFault}
use Rattle.svid_check.specs.Changes.{IsWithdrawal, Replies, Takes, TakesRecord, batch_of, gains, horizon, settled, withdrawn_in}
use Rattle.svid_check.specs.Runs.{Runs, RunsFrom, Terms}
use Rattle.svid_check.specs.Said.{RefusesForm}
use Rattle.svid_check.specs.Told.{Told, record_of, tell_now, tell_summary}
use Rattle.svid_check.specs.Verdict.{verdict}

-- a check that answers as its contract says is a run of one event
abbrev pub ChecksAreSteps : Type 0
ChecksAreSteps = (t : Terms) (a : State) (now : ℕ) (token : Bor (List ℕ)) (answer : Result Accepted Refusal)
    → Answers Some answer (verdict t.setting (raised_to a now).moment (raised_to a now).uses token.now) → RefusesForm token.now answer
    → RunsFrom t a (Check now token ∷ []) (Checked answer ∷ []) (settled (raised_to a now) answer)

-- so is a tick
abbrev pub TicksAreSteps : Type 0
TicksAreSteps = (t : Terms) (a : State) (now : ℕ) → RunsFrom t a (Tick now ∷ []) (Ticked ∷ []) (raised_to a now)

-- and a take
abbrev pub TakesAreSteps : Type 0
TakesAreSteps = (t : Terms) (a b : State) (now : ℕ) (batch : Bor BatchData) (answer : Result (Unit {0}) TakeFault)
    → Takes (raised_to a now) (horizon now t.ahead) batch.now answer b → RunsFrom t a (Take now batch ∷ []) (Taken answer ∷ []) b

-- and a take of a whole record, with the record as one batch
abbrev pub RecordTakesAreSteps : Type 0
RecordTakesAreSteps = (t : Terms) (a b r : State) (now : ℕ) (batch : Bor BatchData) (answer : Result (Unit {0}) TakeFault)
    → TakesRecord (raised_to a now) (horizon now t.ahead) r answer b → batch.now ≡ batch_of r → RunsFrom t a (Take now batch ∷ []) (Taken answer ∷ []) b

-- and a withdrawal
abbrev pub WithdrawalsAreSteps : Type 0
WithdrawalsAreSteps = (t : Terms) (a : State) (now : ℕ) (key : List ℕ) (exp : ℕ) (answer : Result Use WithdrawFault)
    → IsWithdrawal t.setting.validator_id (raised_to a now).moment key exp answer → RunsFrom t a (Withdraw now key exp ∷ []) (Withdrawn answer ∷ []) (gains (raised_to a now) (withdrawn_in answer))

-- an answer to a summary is no event: the validator learns only a moment
abbrev pub AnswersTellMoments : Type 0
AnswersTellMoments = (x : Told) (b : State) (now far : ℕ) (s : SummaryData) (answer : Result (Vec BatchData Global) TakeFault)
    → Replies (raised_to (record_of x) now) far s answer b → record_of (tell_summary (tell_now x now) s answer) ≡ b

-- two runs, one after the other, are one run of both lists of events
abbrev pub RunsGoOn : Type 0
RunsGoOn = (t : Terms) (x y z : Told) (events more : List Event) (answers others : List Answer)
    → Runs t x events answers y → Runs t y more others z → Runs t x (events ++ more) (answers ++ others) z

-- and so they are from one record to another
abbrev pub RecordsGoOn : Type 0
RecordsGoOn = (t : Terms) (a b c : State) (events more : List Event) (answers others : List Answer)
    → RunsFrom t a events answers b → RunsFrom t b more others c → RunsFrom t a (events ++ more) (answers ++ others) c
