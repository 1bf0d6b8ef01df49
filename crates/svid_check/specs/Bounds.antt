-- How far ahead of its calls a validator's record can get.
use Rattle.std.specs.Prelude.{ℕ, ◌<◌, ◌≤◌, ◌^◌, max, List, [], ◌∷◌, Result, Vec}
use Rattle.std.specs.declared.alloc.Global.{Global}
use Rattle.std.specs.List.{AllByRecursion}
use Rattle.svid_token.specs.declared.refusal.Refusal.{Refusal}
use Rattle.svid_replay.specs.Buckets.{raised_to}
use Rattle.svid_replay.specs.declared.token_use.Use.{Use}
use Rattle.svid_replay.specs.Batches.{BatchData}
use Rattle.svid_replay.specs.Records.{IsRecord, State}
use Rattle.svid_replay.specs.Summary.{SummaryData}
use Rattle.svid_check.specs.declared.accepted.Accepted.{Accepted}
use Rattle.svid_check.specs.declared.answer.Answer.{Answer}
use Rattle.svid_check.specs.declared.event.Event.{Event}
use Rattle.svid_check.specs.declared.event.Event.TheVariants.{Check, Tick, Take, Withdraw}
use Rattle.svid_check.specs.declared.take_fault.TakeFault.{TakeFault}
use Rattle.svid_check.specs.declared.withdraw_fault.WithdrawFault.{WithdrawFault}
use Rattle.svid_check.specs.Changes.{Replies, Takes, TakesRecord, gains, horizon, settled, withdrawn_in}
use Rattle.svid_check.specs.Runs.{Runs, RunsFrom, Terms}
use Rattle.svid_check.specs.Told.{Told}

-- the greater of a moment and the horizon
abbrev pub reach : ℕ → ℕ → ℕ → ℕ
reach moment now ahead = max moment (horizon now ahead)

-- the moment of an event
abbrev pub now_of : Event → ℕ
now_of (Check now token) = now
now_of (Tick now) = now
now_of (Take now batch) = now
now_of (Withdraw now key exp) = now

-- the greatest moment of events, 0 for none
abbrev pub latest : List Event → ℕ
latest [] = 0
latest (event ∷ events) = max (now_of event) (latest events)

-- the moment of each event is below 2^64
abbrev pub AreMoments : List Event → Type 0
AreMoments events = AllByRecursion (λ event. now_of event < 2 ^ 64) events

-- whatever it answers, a check leaves the record within its reach
abbrev pub ChecksAreBounded : Type 0
ChecksAreBounded = (x : State) (now ahead : ℕ) (answer : Result Accepted Refusal) → now < 2 ^ 64 → (settled (raised_to x now) answer).moment ≤ reach x.moment now ahead

-- so does a tick
abbrev pub TicksAreBounded : Type 0
TicksAreBounded = (x : State) (now ahead : ℕ) → now < 2 ^ 64 → (raised_to x now).moment ≤ reach x.moment now ahead

-- and a withdrawal
abbrev pub WithdrawalsAreBounded : Type 0
WithdrawalsAreBounded = (x : State) (now ahead : ℕ) (answer : Result Use WithdrawFault) → now < 2 ^ 64 → (gains (raised_to x now) (withdrawn_in answer)).moment ≤ reach x.moment now ahead

-- and a take
abbrev pub TakesAreBounded : Type 0
TakesAreBounded = (x y : State) (now ahead : ℕ) (b : BatchData) (answer : Result (Unit {0}) TakeFault) → now < 2 ^ 64
    → Takes (raised_to x now) (horizon now ahead) b answer y → y.moment ≤ reach x.moment now ahead

-- of a whole record too
abbrev pub RecordTakesAreBounded : Type 0
RecordTakesAreBounded = (x y : State) (now ahead : ℕ) (r : State) (answer : Result (Unit {0}) TakeFault) → now < 2 ^ 64
    → TakesRecord (raised_to x now) (horizon now ahead) r answer y → y.moment ≤ reach x.moment now ahead

-- and an answer to a summary
abbrev pub AnswersAreBounded : Type 0
AnswersAreBounded = (x y : State) (now ahead : ℕ) (s : SummaryData) (answer : Result (Vec BatchData Global) TakeFault) → now < 2 ^ 64
    → Replies (raised_to x now) (horizon now ahead) s answer y → y.moment ≤ reach x.moment now ahead

-- and a run, of its latest event
abbrev pub RunsAreBounded : Type 0
RunsAreBounded = (t : Terms) (x y : Told) (events : List Event) (answers : List Answer) → AreMoments events
    → Runs t x events answers y → y.greatest ≤ reach x.greatest (latest events) t.ahead

-- and so it is from one record to another
abbrev pub RecordsAreBounded : Type 0
RecordsAreBounded = (t : Terms) (a b : State) (events : List Event) (answers : List Answer) → IsRecord a → AreMoments events
    → RunsFrom t a events answers b → b.moment ≤ reach a.moment (latest events) t.ahead
