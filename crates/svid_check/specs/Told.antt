-- What a validator has learned: moments and uses, including withdrawals. These are never pruned.
use Rattle.std.specs.Prelude.{◌≡◌, ℕ, ◌<◌, ◌≤◌, max, false, List, ◌∷◌, ◌++◌, Option, None, Some, Result, Ok, Err, Vec}
use Rattle.std.specs.declared.alloc.Global.{Global}
use Rattle.svid_token.specs.declared.refusal.Refusal.{Refusal}
use Rattle.svid_replay.specs.declared.token_use.Use.{Use}
use Rattle.svid_replay.specs.Batches.{BatchData}
use Rattle.svid_replay.specs.Records.{State, IsRecord, batch_state, state_of}
use Rattle.svid_replay.specs.Sets.{holds, union, with}
use Rattle.svid_replay.specs.Uses.{Uses, live}
use Rattle.svid_replay.specs.Summary.{SummaryData}
use Rattle.svid_check.specs.declared.accepted.Accepted.{Accepted}
use Rattle.svid_check.specs.declared.take_fault.TakeFault.{TakeFault}
use Rattle.svid_check.specs.Changes.{accepted_in}
use Rattle.svid_check.specs.declared.take_fault.TakeFault.TheVariants.{TooFarAhead, OutOfMemory}

-- the greatest moment that a validator has learned, and the uses
pub record Told : Type 0 where
  pub greatest : ℕ
  pub uses : Uses

-- what a validator with this record has learned
abbrev pub begun : State → Told
begun a = record { greatest = a.moment; uses = a.uses }

-- the record for what was learned: the greatest moment, and the uses that are live at it
abbrev pub record_of : Told → State
record_of x = record { moment = x.greatest; uses = live x.uses x.greatest }

-- a validator learns a moment
abbrev pub tell_now : Told → ℕ → Told
tell_now x now = record { greatest = max x.greatest now; uses = x.uses }

-- a validator learns a use, or none
abbrev pub tell_one : Told → Option Use → Told
tell_one x (Some u) = record { greatest = x.greatest; uses = with x.uses u }
tell_one x None = x

-- an acceptance tells its use, a refusal nothing
abbrev pub tell_use : Told → Result Accepted Refusal → Told
tell_use x answer = tell_one x (accepted_in answer)

-- a validator learns a moment and uses
abbrev pub tell : Told → State → Told
tell x b = record { greatest = max x.greatest b.moment; uses = union x.uses b.uses }

-- if memory was refused, a validator learns a batch's moment, and the uses before one that is live and new
pub record TellsFront (x : Told) (b : BatchData) (y : Told) : Type 0 where
  pub front : List Use
  pub refused : Use
  pub rest : List Use
  pub parts : b.uses ≡ front ++ refused ∷ rest
  pub told : y ≡ tell x (state_of b.moment front)
  pub live : y.greatest < refused.exp
  pub absent : holds (record_of y).uses refused ≡ false

-- what a take tells, of a batch within the horizon
abbrev pub TellsBatch : Told → ℕ → BatchData → Result (Unit {0}) TakeFault → Told → Type 0
TellsBatch x far b (Ok taken) y = (b.moment ≤ far) × (y ≡ tell x (batch_state b))
TellsBatch x far b (Err TooFarAhead) y = (far < b.moment) × (y ≡ x)
TellsBatch x far b (Err OutOfMemory) y = (b.moment ≤ far) × TellsFront x b y

-- an answer to a summary within the horizon tells its moment, and no use
abbrev pub tell_summary : Told → SummaryData → Result (Vec BatchData Global) TakeFault → Told
tell_summary x s (Ok batches) = tell_now x s.moment
tell_summary x s (Err TooFarAhead) = x
tell_summary x s (Err OutOfMemory) = tell_now x s.moment

-- a validator that is given a record begins with what the record has
abbrev pub BeginsAsGiven : Type 0
BeginsAsGiven = (a : State) → IsRecord a → record_of (begun a) ≡ a
