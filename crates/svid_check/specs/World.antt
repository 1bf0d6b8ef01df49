-- A group of validators that send each other their records, their summaries, and answers to summaries: what may happen in it, and what that leaves.
use Rattle.std.specs.Prelude.{ℕ, ◌-◌, ◌/◌, Bool, not, nat_lt, ◌==◌, ◌||◌, if◌then◌else◌, List, [], ◌∷◌, ◌++◌, length, slice_get, take, Option, Some, None, Result, Ok, Err}
use Rattle.std.specs.List.{list_any}
use Rattle.svid_token.specs.Compact.{compact_rows}
use Rattle.svid_token.specs.Rows.{first_row}
use Rattle.svid_token.specs.declared.refusal.Refusal.{Refusal}
use Rattle.svid_token.specs.declared.refusal.Refusal.TheVariants.{OutOfMemory}
use Rattle.svid_replay.specs.declared.token_use.Use.{Use}
use Rattle.svid_replay.specs.Batches.{BatchData}
use Rattle.svid_replay.specs.Buckets.{answer_to, raised_to, summary_of}
use Rattle.svid_replay.specs.Parts.{full_batches, parts_of}
use Rattle.svid_replay.specs.Records.{State, batch_state, join, state_of}
use Rattle.svid_replay.specs.Sets.{holds, keep, rising}
use Rattle.svid_replay.specs.Summary.{SummaryData}
use Rattle.svid_replay.specs.Uses.{Uses, uses_in}
use Rattle.svid_check.specs.declared.accepted.Accepted.{Accepted}
use Rattle.svid_check.specs.declared.withdraw_fault.WithdrawFault.{WithdrawFault}
use Rattle.svid_check.specs.declared.withdraw_fault.WithdrawFault.TheVariants as withdraw
use Rattle.svid_check.specs.Changes.{accepted_in, gains, horizon, withdrawal, withdrawn_in}
use Rattle.svid_check.specs.Runs.{Terms}
use Rattle.svid_check.specs.Saves.{piece_of}
use Rattle.svid_check.specs.Setting.{Setting, Renewal, renewed}
use Rattle.svid_check.specs.Told.{Told, begun, tell, tell_now, tell_one}
use Rattle.svid_check.specs.Verdict.{verdict}

-- what a log holds: that this part of this posting was taken, or that this posting, a summary, was made
pub data Entry : Type 0 where
  Took : (posting part : ℕ) → Entry
  Made : (posting : ℕ) → Entry

-- a validator of a group: its record, what it has learned, its log, and the last renewal of its setting, if there was one
pub record Member : Type 0 where
  pub held : State
  pub told : Told
  pub log : List Entry
  pub renewal : Option Renewal

-- what is posted: the parts of a record, a summary, the parts of an answer to the summary that this posting is, or a piece of a record, which its maker puts by
pub data Content : Type 0 where
  Sent : (parts : List BatchData) → Content
  Summed : (summary : SummaryData) → Content
  Answered : (summary : ℕ) (parts : List BatchData) → Content
  Pieced : (piece : BatchData) → Content

-- a posting: who made it, what that validator was then, and what is posted
pub record Posting : Type 0 where
  pub maker : ℕ
  pub was : Member
  pub content : Content

-- a save: whose it is, and what that validator was then
pub record Saved : Type 0 where
  pub owner : ℕ
  pub was : Member

-- a group: its validators, all that was posted, and all that was saved
pub record World : Type 0 where
  pub members : ℕ → Member
  pub pool : List Posting
  pub saves : List Saved

-- What may happen to validator v, at the moment `now`. `refused` is the memory that was refused in it: whether, and of a take also how many uses of the batch were joined before.
pub data Event : Type 0 where
  Check : (v now : ℕ) (token : List ℕ) (refused : Bool) → Event
  Withdraw : (v now : ℕ) (key : List ℕ) (exp : ℕ) (refused : Bool) → Event
  Tick : (v now : ℕ) → Event
  Send : (v : ℕ) → Event
  OldSend : (v : ℕ) → Event
  Sum : (v : ℕ) → Event
  Answer : (v now posting : ℕ) (refused : Bool) → Event
  Take : (v now posting part : ℕ) (refused : Option ℕ) → Event
  Save : (v : ℕ) → Event
  Piece : (v : ℕ) (after : Option Use) (most : ℕ) → Event
  Restart : (v save : ℕ) → Event
  Renew : (v : ℕ) (renewal : Renewal) → Event

-- a validator that nothing happened to: a new record, nothing told, an empty log, the setting that the group gives it
abbrev pub new_member : Member
new_member = record { held = state_of 0 []; told = begun (state_of 0 []); log = []; renewal = None }

-- a group that nothing happened in
abbrev pub start : World
start = record { members = λ v. new_member; pool = []; saves = [] }

-- the batches in a posting
abbrev pub parts_in : Content → List BatchData
parts_in (Sent parts) = parts
parts_in (Summed summary) = []
parts_in (Answered summary parts) = parts
parts_in (Pieced piece) = piece ∷ []

-- a validator learns a moment
abbrev pub ticked : Member → ℕ → Member
ticked x now = record { held = raised_to x.held now; told = tell_now x.told now; log = x.log; renewal = x.renewal }

-- a log gets an entry more
abbrev pub logged : Member → Entry → Member
logged x entry = record { held = x.held; told = x.told; log = x.log ++ entry ∷ []; renewal = x.renewal }

-- the same validator with another renewal
abbrev pub with_renewal : Member → Option Renewal → Member
with_renewal x renewal = record { held = x.held; told = x.told; log = x.log; renewal = renewal }

-- a verdict as a check's answer; `Ok None` is no verdict at all
abbrev pub answer_by : Result (Option Accepted) Refusal → Result Accepted Refusal
answer_by (Ok (Some accepted)) = Ok accepted
answer_by (Ok None) = Err OutOfMemory
answer_by (Err refusal) = Err refusal

-- out of memory, but never instead of a refusal for the token's form
abbrev pub form_or_memory : Option Refusal → Refusal
form_or_memory None = OutOfMemory
form_or_memory (Some refusal) = refusal

-- what a check answers at an advanced record: the verdict, or out of memory
abbrev pub check_answer : Setting → State → List ℕ → Bool → Result Accepted Refusal
check_answer s x token refused = if refused then Err (form_or_memory (first_row (compact_rows token))) else answer_by (verdict s x.moment x.uses token)

-- what a withdrawal of a raised record answers
abbrev pub withdraw_answer : List ℕ → State → List ℕ → ℕ → Bool → Result Use WithdrawFault
withdraw_answer validator_id x key exp refused = if nat_lt x.moment exp then (if refused then Err withdraw.OutOfMemory else Ok (withdrawal validator_id x.moment key exp)) else Err withdraw.Expired

-- a use is added and told, or none
abbrev pub gained : Member → Option Use → Member
gained x u = record { held = gains x.held u; told = tell_one x.told u; log = x.log; renewal = x.renewal }

-- a check is answered so: an acceptance adds its use and tells it
abbrev pub checked : Member → Result Accepted Refusal → Member
checked x answer = gained x (accepted_in answer)

-- and so is a withdrawal
abbrev pub withdrew : Member → Result Use WithdrawFault → Member
withdrew x answer = gained x (withdrawn_in answer)

-- the uses of a sender that its batch carries: those in the batch, and those that had expired by its moment
unfoldable pub carried : Uses → BatchData → Uses
carried sender b = keep (λ u. holds (uses_in b.uses) u || not (nat_lt b.moment u.exp)) sender

-- a batch is joined, and tells what it carries
abbrev pub joined : Member → Uses → BatchData → Member
joined x sender b = record { held = join x.held (batch_state b); told = tell x.told (record { moment = b.moment; uses = carried sender b }); log = x.log; renewal = x.renewal }

-- the first uses of a batch
abbrev pub front : ℕ → BatchData → BatchData
front n b = record { moment = b.moment; uses = take n b.uses }

-- a batch within the horizon is taken: whole, with an entry, or so many of its first uses where memory was refused
abbrev pub took : ℕ → Member → Entry → Uses → BatchData → Option ℕ → Member
took far x entry sender b None = if nat_lt far b.moment then x else logged (joined x sender b) entry
took far x entry sender b (Some n) = if nat_lt far b.moment then x else joined x sender (front n b)

-- validator v is now x
abbrev pub put : World → ℕ → Member → World
put w v x = record { members = λ n. if n == v then x else w.members n; pool = w.pool; saves = w.saves }

-- validator v posts this, being x
abbrev pub post : World → ℕ → Member → Content → World
post w v x content = record { members = w.members; pool = w.pool ++ record { maker = v; was = x; content = content } ∷ []; saves = w.saves }

-- validator v is saved, being x
abbrev pub save : World → ℕ → Member → World
save w v x = record { members = w.members; pool = w.pool; saves = w.saves ++ record { owner = v; was = x } ∷ [] }

-- a record has a withdrawal
abbrev pub has_withdrawal : State → Bool
has_withdrawal r = list_any (λ u. u.withdrawn) (rising r.uses)

-- the parts of a record as messages of version 1 tell them: 4,096 uses in each but the last
abbrev pub old_parts_of : State → List BatchData
old_parts_of r = full_batches 4096 ((length (rising r.uses) - 1) / 4096) r.moment (rising r.uses)

-- validator v, being x, sends its record in version 1, if that has no withdrawal
abbrev pub send_old : World → ℕ → Member → World
send_old w v x = if has_withdrawal x.held then w else post w v x (Sent (old_parts_of x.held))

-- validator v, raised to x, takes this part of posting k
abbrev pub take_part : World → ℕ → ℕ → Member → Entry → Option ℕ → Posting → Option BatchData → World
take_part w v far x entry refused q None = w
take_part w v far x entry refused q (Some b) = put w v (took far x entry q.was.told.uses b refused)

-- validator v, raised to x, takes part p of this posting
abbrev pub take_posting : World → ℕ → ℕ → Member → ℕ → ℕ → Option ℕ → Option Posting → World
take_posting w v far x k p refused None = w
take_posting w v far x k p refused (Some q) = take_part w v far x (Took k p) refused q (slice_get (parts_in q.content) p)

-- validator v, raised to x, answers the summary that posting k is: one within the horizon tells its moment, and the answer is posted where memory was not refused
abbrev pub answer_summary : World → ℕ → ℕ → Member → ℕ → Bool → SummaryData → World
answer_summary w v far x k refused s =
    let y = ticked x s.moment in
    if nat_lt far s.moment then put w v x
    else if refused then put w v y
    else post (put w v y) v y (Answered k (answer_to x.held s))

-- it answers what is posted there, if that is a summary
abbrev pub answer_content : World → ℕ → ℕ → Member → ℕ → Bool → Content → World
answer_content w v far x k refused (Sent parts) = w
answer_content w v far x k refused (Summed s) = answer_summary w v far x k refused s
answer_content w v far x k refused (Answered summary parts) = w
answer_content w v far x k refused (Pieced piece) = w

-- it answers posting k, if there is one
abbrev pub answer_posting : World → ℕ → ℕ → Member → ℕ → Bool → Option Posting → World
answer_posting w v far x k refused None = w
answer_posting w v far x k refused (Some q) = answer_content w v far x k refused q.content

-- validator v is what it was at this save, if the save is its own; its setting stays that of now
abbrev pub restart : World → ℕ → Option Saved → World
restart w v None = w
restart w v (Some s) = if s.owner == v then put w v (with_renewal s.was (w.members v).renewal) else w

-- a use as a list
abbrev pub one_or_none : Option Use → List Use
one_or_none (Some u) = u ∷ []
one_or_none None = []

module _ (group : ℕ → Terms) where
  -- the horizon of validator v at a moment
  abbrev pub far : ℕ → ℕ → ℕ
  far v now = horizon now (group v).ahead

  -- the setting of validator v
  abbrev pub setting_at : World → ℕ → Setting
  setting_at w v = renewed (group v).setting (w.members v).renewal

  -- what validator v answers to a check
  abbrev pub answer_at : World → ℕ → ℕ → List ℕ → Bool → Result Accepted Refusal
  answer_at w v now token refused = check_answer (setting_at w v) (raised_to (w.members v).held now) token refused

  -- what validator v answers to a withdrawal
  abbrev pub withdrawal_at : World → ℕ → ℕ → List ℕ → ℕ → Bool → Result Use WithdrawFault
  withdrawal_at w v now key exp refused = withdraw_answer (group v).setting.validator_id (raised_to (w.members v).held now) key exp refused

  -- what an event leaves; one that names a part or a summary that is not there, or a save that is not there or another's, leaves all as it was
  abbrev pub happens : World → Event → World
  happens w (Check v now token refused) = put w v (checked (ticked (w.members v) now) (answer_at w v now token refused))
  happens w (Withdraw v now key exp refused) = put w v (withdrew (ticked (w.members v) now) (withdrawal_at w v now key exp refused))
  happens w (Tick v now) = put w v (ticked (w.members v) now)
  happens w (Send v) = post w v (w.members v) (Sent (parts_of (w.members v).held))
  happens w (OldSend v) = send_old w v (w.members v)
  happens w (Sum v) = post (put w v (logged (w.members v) (Made (length w.pool)))) v (w.members v) (Summed (summary_of (w.members v).held))
  happens w (Answer v now k refused) = answer_posting w v (far v now) (ticked (w.members v) now) k refused (slice_get w.pool k)
  happens w (Take v now k p refused) = take_posting w v (far v now) (ticked (w.members v) now) k p refused (slice_get w.pool k)
  happens w (Save v) = save w v (w.members v)
  happens w (Piece v after most) = post w v (w.members v) (Pieced (piece_of (w.members v).held after most))
  happens w (Restart v k) = restart w v (slice_get w.saves k)
  happens w (Renew v renewal) = put w v (with_renewal (w.members v) (Some renewal))

  -- what a list of events leaves
  abbrev pub happen : World → List Event → World
  happen w [] = w
  happen w (event ∷ events) = happen (happens w event) events

  -- the uses that an event accepts
  abbrev pub accepted_by : World → Event → List Use
  accepted_by w (Check v now token refused) = one_or_none (accepted_in (answer_at w v now token refused))
  accepted_by w _ = []

  -- the uses that a list of events accepts, in their order
  abbrev pub accepted : World → List Event → List Use
  accepted w [] = []
  accepted w (event ∷ events) = accepted_by w event ++ accepted (happens w event) events

  -- the withdrawals that an event makes
  abbrev pub withdrawn_by : World → Event → List Use
  withdrawn_by w (Withdraw v now key exp refused) = one_or_none (withdrawn_in (withdrawal_at w v now key exp refused))
  withdrawn_by w _ = []

  -- the withdrawals that a list of events makes, in their order
  abbrev pub withdrawn : World → List Event → List Use
  withdrawn w [] = []
  withdrawn w (event ∷ events) = withdrawn_by w event ++ withdrawn (happens w event) events
