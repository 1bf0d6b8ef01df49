-- One validator by itself, with any messages, and its saves.
use Rattle.std.specs.Prelude.{◌≡◌, ◌≢◌, ℕ, ◌≤◌, Bool, false, nat_lt, if◌then◌else◌, List, [], ◌∷◌, ◌++◌, length, slice_get, Option, Some, None, Result, Ok, Vec}
use Rattle.std.specs.declared.alloc.Global.{Global}
use Rattle.svid_token.specs.Rows.{Answers}
use Rattle.svid_token.specs.declared.refusal.Refusal.{Refusal}
use Rattle.svid_replay.specs.Buckets.{raised_to}
use Rattle.svid_replay.specs.declared.token_use.Use.{Use}
use Rattle.svid_replay.specs.Batches.{BatchData}
use Rattle.svid_replay.specs.Records.{State, batch_state, join}
use Rattle.svid_replay.specs.Summary.{SummaryData}
use Rattle.svid_check.specs.declared.accepted.Accepted.{Accepted}
use Rattle.svid_check.specs.declared.take_fault.TakeFault.{TakeFault}
use Rattle.svid_check.specs.declared.withdraw_fault.WithdrawFault.{WithdrawFault}
use Rattle.svid_check.specs.Changes.{IsWithdrawal, Replies, Takes, TakesRecord, batch_of, gains, horizon, settled, withdrawn_in}
use Rattle.svid_check.specs.Lawful.{input_of}
use Rattle.svid_check.specs.Runs.{Terms}
use Rattle.svid_check.specs.Said.{RefusesForm}
use Rattle.svid_check.specs.Verdict.{verdict}
use Rattle.svid_check.specs.World.{check_answer, front, withdraw_answer}
use Rattle.svid_check.specs.Setting.{Renewal, Setting, renewed}

-- a validator's record, its saves, and the last renewal of its setting, if there was one
pub record Alone : Type 0 where
  pub held : State
  pub saves : List State
  pub renewal : Option Renewal

-- What may be called, at the moment `now`, with any batch and any summary. `refused` is the memory that was refused in it.
pub data Call : Type 0 where
  Check : (now : ℕ) (token : List ℕ) (refused : Bool) → Call
  Withdraw : (now : ℕ) (key : List ℕ) (exp : ℕ) (refused : Bool) → Call
  Tick : (now : ℕ) → Call
  Take : (now : ℕ) (batch : BatchData) (refused : Option ℕ) → Call
  Answer : (now : ℕ) (summary : SummaryData) → Call
  Save : Call
  Restart : (save : ℕ) → Call
  Renew : (renewal : Renewal) → Call

-- what is joined of a batch: all, or so many of its first uses
abbrev pub joined_of : BatchData → Option ℕ → BatchData
joined_of b None = b
joined_of b (Some n) = front n b

-- the record is now a
abbrev pub with_held : Alone → State → Alone
with_held w a = record { held = a; saves = w.saves; renewal = w.renewal }

-- the record is what it was at this save
abbrev pub put_back : Alone → Option State → Alone
put_back w None = w
put_back w (Some a) = with_held w a

module _ (t : Terms) where
  -- the setting of now
  abbrev pub setting_alone : Alone → Setting
  setting_alone w = renewed t.setting w.renewal

  -- what a check answers
  abbrev pub answer_alone : Alone → ℕ → List ℕ → Bool → Result Accepted Refusal
  answer_alone w now token refused = check_answer (setting_alone w) (raised_to w.held now) token refused

  -- what a withdrawal answers
  abbrev pub withdrawal_alone : Alone → ℕ → List ℕ → ℕ → Bool → Result Use WithdrawFault
  withdrawal_alone w now key exp refused = withdraw_answer t.setting.validator_id (raised_to w.held now) key exp refused

  -- what a call leaves
  abbrev pub called : Alone → Call → Alone
  called w (Check now token refused) = with_held w (settled (raised_to w.held now) (answer_alone w now token refused))
  called w (Withdraw now key exp refused) = with_held w (gains (raised_to w.held now) (withdrawn_in (withdrawal_alone w now key exp refused)))
  called w (Tick now) = with_held w (raised_to w.held now)
  called w (Take now b refused) =
      with_held w (if nat_lt (horizon now t.ahead) b.moment then raised_to w.held now else join (raised_to w.held now) (batch_state (joined_of b refused)))
  called w (Answer now s) = with_held w (if nat_lt (horizon now t.ahead) s.moment then raised_to w.held now else raised_to (raised_to w.held now) s.moment)
  called w Save = record { held = w.held; saves = w.saves ++ w.held ∷ []; renewal = w.renewal }
  called w (Restart k) = put_back w (slice_get w.saves k)
  called w (Renew renewal) = record { held = w.held; saves = w.saves; renewal = Some renewal }

  -- what a list of calls leaves
  abbrev pub calls : Alone → List Call → Alone
  calls w [] = w
  calls w (call ∷ more) = calls (called w call) more

-- whatever the contract of a check allows, its call does, for some memory that was refused
abbrev pub ChecksAreCalls : Type 0
ChecksAreCalls = (t : Terms) (w : Alone) (now : ℕ) (token : List ℕ) (answer : Result Accepted Refusal)
    → let x = raised_to w.held now in
    Answers Some answer (verdict (setting_alone t w) x.moment x.uses token) → RefusesForm token answer
    → (refused : Bool) × (answer_alone t w now token refused ≡ answer) × ((called t w (Check now token refused)).held ≡ settled x answer)

-- so it is with a withdrawal
abbrev pub WithdrawalsAreCalls : Type 0
WithdrawalsAreCalls = (t : Terms) (w : Alone) (now : ℕ) (key : List ℕ) (exp : ℕ) (answer : Result Use WithdrawFault)
    → let x = raised_to w.held now in
    IsWithdrawal t.setting.validator_id x.moment key exp answer
    → (refused : Bool) × (withdrawal_alone t w now key exp refused ≡ answer) × ((called t w (Withdraw now key exp refused)).held ≡ gains x (withdrawn_in answer))

-- with a tick
abbrev pub TicksAreCalls : Type 0
TicksAreCalls = (t : Terms) (w : Alone) (now : ℕ) → (called t w (Tick now)).held ≡ raised_to w.held now

-- with a take
abbrev pub TakesAreCalls : Type 0
TakesAreCalls = (t : Terms) (w : Alone) (now : ℕ) (b : BatchData) (answer : Result (Unit {0}) TakeFault) (y : State)
    → Takes (raised_to w.held now) (horizon now t.ahead) b answer y → (refused : Option ℕ) × ((called t w (Take now b refused)).held ≡ y)

-- with a take of a whole record, as one batch
abbrev pub RecordTakesAreCalls : Type 0
RecordTakesAreCalls = (t : Terms) (w : Alone) (now : ℕ) (r : State) (answer : Result (Unit {0}) TakeFault) (y : State)
    → TakesRecord (raised_to w.held now) (horizon now t.ahead) r answer y → (refused : Option ℕ) × ((called t w (Take now (batch_of r) refused)).held ≡ y)

-- and with an answer to a summary
abbrev pub AnswersAreCalls : Type 0
AnswersAreCalls = (t : Terms) (w : Alone) (now : ℕ) (s : SummaryData) (answer : Result (Vec BatchData Global) TakeFault) (y : State)
    → Replies (raised_to w.held now) (horizon now t.ahead) s answer y → (called t w (Answer now s)).held ≡ y

-- no save before the n-th, counted from 0, is put back
abbrev pub PutsBackFrom : ℕ → List Call → Type 0
PutsBackFrom n [] = Unit {0}
PutsBackFrom n (Restart k ∷ more) = (n ≤ k) × PutsBackFrom n more
PutsBackFrom n (_ ∷ more) = PutsBackFrom n more

-- from any state, once a check accepts a token, no later check accepts one of its signing input, whatever audiences, bundles and verifiers it is given between, unless a save from before the acceptance is put back
abbrev pub AcceptsOnce : Type 0
AcceptsOnce = (t : Terms) (w : Alone) (now later : ℕ) (token again : List ℕ) (calls_between : List Call) (refused : Bool) (first second : Accepted)
    → answer_alone t w now token false ≡ Ok first
    → PutsBackFrom (length w.saves) calls_between
    → input_of again ≡ input_of token
    → answer_alone t (calls t (called t w (Check now token false)) calls_between) later again refused ≢ Ok second
