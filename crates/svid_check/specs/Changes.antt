-- What the calls of a validator leave of its record.
use Rattle.std.specs.Prelude.{◌≡◌, ◌↔◌, ℕ, ◌+◌, ◌-◌, ◌^◌, ◌<◌, ◌≤◌, min, true, List, [], ◌∷◌, Option, None, Some, Result, Ok, Err, Vec}
use Rattle.std.specs.declared.alloc.Global.{Global}
use Rattle.svid_token.specs.declared.refusal.Refusal.{Refusal}
use Rattle.svid_replay.specs.declared.token_use.Use.{Use}
use Rattle.svid_replay.specs.Batches.{BatchData}
use Rattle.svid_replay.specs.Buckets.{answer_to, raised_to}
use Rattle.svid_replay.specs.Records.{State, IsPartlyJoined, batch_state, join, state_of}
use Rattle.svid_replay.specs.Sets.{rising}
use Rattle.svid_replay.specs.Summary.{SummaryData}
use Rattle.svid_check.specs.declared.accepted.Accepted.{Accepted}
use Rattle.svid_check.specs.declared.take_fault.TakeFault.{TakeFault}
use Rattle.svid_check.specs.declared.take_fault.TakeFault.TheVariants.{TooFarAhead, OutOfMemory}
use Rattle.svid_check.specs.declared.withdraw_fault.WithdrawFault.{WithdrawFault}
use Rattle.svid_check.specs.declared.withdraw_fault.WithdrawFault.TheVariants as withdraw

-- a record that gains a use, or none
abbrev pub gains : State → Option Use → State
gains x (Some u) = join x (state_of x.moment (u ∷ []))
gains x None = x

-- what a check adds: the use of an acceptance
abbrev pub accepted_in : Result Accepted Refusal → Option Use
accepted_in (Ok accepted) = Some accepted.used
accepted_in (Err refusal) = None

-- a record after a check: an acceptance adds its use, a refusal nothing
abbrev pub settled : State → Result Accepted Refusal → State
settled x answer = gains x (accepted_in answer)

-- the withdrawal of tokens with this key and expiry, made at this validator ID and moment
abbrev pub withdrawal : List ℕ → ℕ → List ℕ → ℕ → Use
withdrawal validator_id moment key exp = record { exp = exp; key = key; validator_id = validator_id; at = moment; withdrawn = true }

-- what a call to withdraw answers, at the record's moment: the withdrawal or out of memory, unless the tokens have expired
abbrev pub IsWithdrawal : List ℕ → ℕ → List ℕ → ℕ → Result Use WithdrawFault → Type 0
IsWithdrawal validator_id moment key exp (Ok used) = (moment < exp) × (used ≡ withdrawal validator_id moment key exp)
IsWithdrawal validator_id moment key exp (Err withdraw.Expired) = exp ≤ moment
IsWithdrawal validator_id moment key exp (Err withdraw.OutOfMemory) = moment < exp

-- what it adds: the withdrawal that it answers
abbrev pub withdrawn_in : Result Use WithdrawFault → Option Use
withdrawn_in (Ok used) = Some used
withdrawn_in (Err fault) = None

-- the moment up to which messages are taken: so many seconds ahead of now, held at the greatest moment
abbrev pub horizon : ℕ → ℕ → ℕ
horizon now ahead = min (now + ahead) (2 ^ 64 - 1)

-- what a take leaves of a raised record: of a batch within the horizon the join, or a part of it where memory was refused; else nothing more
abbrev pub Takes : State → ℕ → BatchData → Result (Unit {0}) TakeFault → State → Type 0
Takes x far b (Ok taken) y = (b.moment ≤ far) × (y ≡ join x (batch_state b))
Takes x far b (Err TooFarAhead) y = (far < b.moment) × (y ≡ x)
Takes x far b (Err OutOfMemory) y = (b.moment ≤ far) × IsPartlyJoined x y b.moment b.uses

-- what taking a whole record leaves of a raised one: of a record within the horizon the join, or a part of it where memory was refused; else nothing more
abbrev pub TakesRecord : State → ℕ → State → Result (Unit {0}) TakeFault → State → Type 0
TakesRecord x far r (Ok taken) y = (r.moment ≤ far) × (y ≡ join x r)
TakesRecord x far r (Err TooFarAhead) y = (far < r.moment) × (y ≡ x)
TakesRecord x far r (Err OutOfMemory) y = (r.moment ≤ far) × IsPartlyJoined x y r.moment (rising r.uses)

-- a record as one batch: its moment, and all of its uses in their order
abbrev pub batch_of : State → BatchData
batch_of r = record { moment = r.moment; uses = rising r.uses }

-- taking a record is taking that batch
abbrev pub RecordTakesAreTakes : Type 0
RecordTakesAreTakes = (x : State) (far : ℕ) (r : State) (answer : Result (Unit {0}) TakeFault) (y : State) → TakesRecord x far r answer y ↔ Takes x far (batch_of r) answer y

-- What a call answers to a summary, and what it leaves of an advanced record. For a summary within the horizon it answers what is due, or that it is
-- out of memory, and the record is advanced to the summary's moment. Else nothing more happens.
abbrev pub Replies : State → ℕ → SummaryData → Result (Vec BatchData Global) TakeFault → State → Type 0
Replies x far s (Ok batches) y = (s.moment ≤ far) × (batches.items ≡ answer_to x s) × (y ≡ raised_to x s.moment)
Replies x far s (Err TooFarAhead) y = (far < s.moment) × (y ≡ x)
Replies x far s (Err OutOfMemory) y = (s.moment ≤ far) × (y ≡ raised_to x s.moment)
