-- The calls of a validator, as events of a group: what the contract of a call allows is what its event does, for some memory that was refused.
use Rattle.std.specs.Prelude.{◌≡◌, ℕ, Bool, List, [], ◌∷◌, ◌++◌, length, slice_get, Option, Some, Result, Ok, Err, Vec}
use Rattle.std.specs.declared.alloc.Global.{Global}
use Rattle.svid_keys.specs.Bundles.{Bundle}
use Rattle.svid_token.specs.Rows.{Answers, first_row}
use Rattle.svid_token.specs.declared.refusal.Refusal.{Refusal}
use Rattle.svid_replay.specs.declared.token_use.Use.{Use}
use Rattle.svid_replay.specs.Batches.{BatchData}
use Rattle.svid_replay.specs.Buckets.{raised_to, summary_of}
use Rattle.svid_replay.specs.Parts.{cut, join_all}
use Rattle.svid_replay.specs.Records.{State, state_of}
use Rattle.svid_replay.specs.Sets.{rising}
use Rattle.svid_replay.specs.Summary.{SummaryData}
use Rattle.svid_check.specs.declared.accepted.Accepted.{Accepted}
use Rattle.svid_check.specs.declared.take_fault.TakeFault.{TakeFault}
use Rattle.svid_check.specs.declared.withdraw_fault.WithdrawFault.{WithdrawFault}
use Rattle.svid_check.specs.Changes.{IsWithdrawal, Replies, Takes, gains, settled, withdrawn_in}
use Rattle.svid_check.specs.Runs.{Terms}
use Rattle.svid_check.specs.Said.{RefusesForm}
use Rattle.svid_check.specs.Saves.{piece_of}
use Rattle.svid_check.specs.Verdict.{again_rows, verdict}
use Rattle.svid_check.specs.World.{Answer, Answered, Check, Entry, Event, Made, Member, Piece, Pieced, Posting, Renew, Save, Send, Sent, Sum, Summed, Take, Tick, Took, Withdraw, World, answer_at, far, happen, happens, parts_in, setting_at, start, withdrawal_at}
use Rattle.svid_check.specs.Setting.{Renewal, Setting, renewed}

-- a check that answers as its contract says is an event with this answer, which leaves the record that the contract says
abbrev pub ChecksAreEvents : Type 0
ChecksAreEvents = (group : ℕ → Terms) (w : World) (v now : ℕ) (token : List ℕ) (answer : Result Accepted Refusal)
    → let x = raised_to (w.members v).held now in
    Answers Some answer (verdict (setting_at group w v) x.moment x.uses token) → RefusesForm token answer
    → (refused : Bool) × (answer_at group w v now token refused ≡ answer) × (((happens group w (Check v now token refused)).members v).held ≡ settled x answer)

-- so is a withdrawal
abbrev pub WithdrawalsAreEvents : Type 0
WithdrawalsAreEvents = (group : ℕ → Terms) (w : World) (v now : ℕ) (key : List ℕ) (exp : ℕ) (answer : Result Use WithdrawFault)
    → let x = raised_to (w.members v).held now in
    IsWithdrawal (group v).setting.validator_id x.moment key exp answer
    → (refused : Bool) × (withdrawal_at group w v now key exp refused ≡ answer) × (((happens group w (Withdraw v now key exp refused)).members v).held ≡ gains x (withdrawn_in answer))

-- so is a tick
abbrev pub TicksAreEvents : Type 0
TicksAreEvents = (group : ℕ → Terms) (w : World) (v now : ℕ) → ((happens group w (Tick v now)).members v).held ≡ raised_to (w.members v).held now

-- a judgment is a tick, and is answered as a check would be
abbrev pub JudgmentsAreTicks : Type 0
JudgmentsAreTicks = (group : ℕ → Terms) (w : World) (v now : ℕ) (token : List ℕ) (answer : Result Accepted Refusal) (y : State)
    → let x = raised_to (w.members v).held now in
    Answers Some answer (verdict (setting_at group w v) x.moment x.uses token) → RefusesForm token answer → y ≡ x
    → (refused : Bool) × (answer_at group w v now token refused ≡ answer) × (((happens group w (Tick v now)).members v).held ≡ y)

-- so is a judgment again, answered by the record that the tick leaves
abbrev pub JudgmentsAgainAreTicks : Type 0
JudgmentsAgainAreTicks = (group : ℕ → Terms) (w : World) (v now : ℕ) (key : List ℕ) (exp : ℕ) (answer : Option Refusal) (y : State)
    → let x = raised_to (w.members v).held now in
    let after = ((happens group w (Tick v now)).members v).held in
    answer ≡ first_row (again_rows x.moment x.uses key exp) → y ≡ x
    → (answer ≡ first_row (again_rows after.moment after.uses key exp)) × (after ≡ y)

-- what a take adds to a log: an entry, where the part was taken
abbrev pub entries : Entry → Result (Unit {0}) TakeFault → List Entry
entries entry (Ok taken) = entry ∷ []
entries entry (Err fault) = []

-- so is a take of a part of posting k: the log gets its entry just where it was taken
abbrev pub TakesAreEvents : Type 0
TakesAreEvents = (group : ℕ → Terms) (w : World) (v now k p : ℕ) (q : Posting) (b : BatchData) (answer : Result (Unit {0}) TakeFault) (y : State)
    → slice_get w.pool k ≡ Some q → slice_get (parts_in q.content) p ≡ Some b → Takes (raised_to (w.members v).held now) (far group v now) b answer y
    → (refused : Option ℕ) × (let x = (happens group w (Take v now k p refused)).members v in (x.held ≡ y) × (x.log ≡ (w.members v).log ++ entries (Took k p) answer))

-- what validator v, which then is x, posts of an answer to posting k: the batches, where it was answered
abbrev pub posted : ℕ → ℕ → Member → Result (Vec BatchData Global) TakeFault → List Posting
posted v k x (Ok batches) = record { maker = v; was = x; content = Answered k batches.items } ∷ []
posted v k x (Err fault) = []

-- so is an answer to posting k: the batches are posted just where it was answered
abbrev pub AnswersAreEvents : Type 0
AnswersAreEvents = (group : ℕ → Terms) (w : World) (v now k : ℕ) (q : Posting) (s : SummaryData) (answer : Result (Vec BatchData Global) TakeFault) (y : State)
    → slice_get w.pool k ≡ Some q → q.content ≡ Summed s → Replies (raised_to (w.members v).held now) (far group v now) s answer y
    → (refused : Bool) × (let after = happens group w (Answer v now k refused) in ((after.members v).held ≡ y) × (after.pool ≡ w.pool ++ posted v k (after.members v) answer))

-- a send leaves a validator as it is, and posts the parts of its record; one to which memory is refused posts nothing, and is no event
abbrev pub SendsAreEvents : Type 0
SendsAreEvents = (group : ℕ → Terms) (w : World) (v : ℕ) (parts : List BatchData)
    → let x = w.members v in
    let after = happens group w (Send v) in
    parts ≡ cut x.held.moment (rising x.held.uses) → (after.members v ≡ x) × (after.pool ≡ w.pool ++ record { maker = v; was = x; content = Sent parts } ∷ [])

-- a piece of a record is posted too, and leaves a validator as it is
abbrev pub PiecesAreEvents : Type 0
PiecesAreEvents = (group : ℕ → Terms) (w : World) (v most : ℕ) (before : Option Use) (piece : BatchData)
    → let x = w.members v in
    let after = happens group w (Piece v before most) in
    piece ≡ piece_of x.held before most → (after.members v ≡ x) × (after.pool ≡ w.pool ++ record { maker = v; was = x; content = Pieced piece } ∷ [])

-- a summary leaves a validator's record as it is, is posted, and stands in the log by its validator ID
abbrev pub SumsAreEvents : Type 0
SumsAreEvents = (group : ℕ → Terms) (w : World) (v : ℕ) (summary : SummaryData)
    → let x = w.members v in
    let after = happens group w (Sum v) in
    summary ≡ summary_of x.held
    → ((after.members v).held ≡ x.held) × ((after.members v).log ≡ x.log ++ Made (length w.pool) ∷ []) × (after.pool ≡ w.pool ++ record { maker = v; was = x; content = Summed summary } ∷ [])

-- if a validator has the setting of the group, it still has it after its bundles were replaced; a renewal leaves its record, what it has learned and
-- its log unchanged
abbrev pub RenewalsAreEvents : Type 0
RenewalsAreEvents = (group : ℕ → Terms) (w : World) (v : ℕ) (old new : Setting) (bundles : List Bundle)
    → let renewal : Renewal = record { own = old.own; bundles = bundles; says = old.says } in
    let x = w.members v in
    let after = happens group w (Renew v renewal) in
    let y = after.members v in
    old ≡ setting_at group w v → new ≡ renewed old (Some renewal)
    → (new ≡ setting_at group after v) × (y.held ≡ x.held) × (y.told ≡ x.told) × (y.log ≡ x.log)

-- a save is the parts of a record: a new record that joins them is what the group keeps
abbrev pub SavesAreEvents : Type 0
SavesAreEvents = (group : ℕ → Terms) (before : List Event) (v : ℕ) (parts : List BatchData)
    → let w = happen group start before in
    let x = w.members v in
    let after = happens group w (Save v) in
    parts ≡ cut x.held.moment (rising x.held.uses)
    → (after.members v ≡ x) × (after.saves ≡ w.saves ++ record { owner = v; was = x } ∷ []) × (join_all (state_of 0 []) parts ≡ x.held)
