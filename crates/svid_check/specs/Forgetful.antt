-- Why a log is saved with its record: a group whose restarts leave the logs as they were, and what then is not told.
use Rattle.std.specs.Prelude.{◌≡◌, ℕ, ◌<◌, ◌^◌, false, List, [], ◌∷◌, slice_get, Some, None, IsTrue, Ok}
use Rattle.std.specs.List.{Contains}
use Rattle.svid_replay.specs.Buckets.{raised_to}
use Rattle.svid_replay.specs.declared.token_use.Use.{Use}
use Rattle.svid_replay.specs.Batches.{BatchData}
use Rattle.svid_replay.specs.Sets.{holds}
use Rattle.svid_replay.specs.Summary.{SummaryData}
use Rattle.svid_replay.specs.Use.{IsBytes}
use Rattle.svid_check.specs.declared.accepted.Accepted.{Accepted}
use Rattle.svid_check.specs.Headline.{HasTaken, IsClash, IsSend}
use Rattle.svid_check.specs.Runs.{Terms}
use Rattle.svid_check.specs.World.{Answer, Answered, Check, Entry, Event, Made, Member, Posting, Restart, Save, Send, Sum, Summed, Take, World, check_answer, happens, new_member, put, restart, start}

-- the same validator with another log
abbrev pub with_log : Member → List Entry → Member
with_log x log = record { held = x.held; told = x.told; log = log; renewal = x.renewal }

module _ (group : ℕ → Terms) where
  -- what an event leaves where a restart leaves the log as it was
  abbrev pub happens_forgetful : World → Event → World
  happens_forgetful w (Restart v k) = put w v (with_log ((restart w v (slice_get w.saves k)).members v) (w.members v).log)
  happens_forgetful w event = happens group w event

  -- what a list of events leaves there
  abbrev pub happen_forgetful : World → List Event → World
  happen_forgetful w [] = w
  happen_forgetful w (event ∷ events) = happen_forgetful (happens_forgetful w event) events

-- validator v's log has a send whole, and yet v was not told this use, which the sender had been told
pub record IsSendForgotten (w : World) (v k : ℕ) (u : Use) : Type 0 where
  pub posting : Posting
  pub is_send : IsSend w k posting
  pub taken : HasTaken (w.members v).log k posting
  pub told : IsTrue (holds posting.was.told.uses u)
  pub forgotten : holds (w.members v).told.uses u ≡ false

-- validator v's log has a summary and an answer to it whole, and no bucket of the two had two texts of one digest, and yet v was not told this use, which the answerer had been told
pub record IsAnswerForgotten (w : World) (v j k : ℕ) (u : Use) : Type 0 where
  pub summary : Posting
  pub answer : Posting
  pub digests : SummaryData
  pub parts : List BatchData
  pub is_summary : (slice_get w.pool k ≡ Some summary) × (summary.content ≡ Summed digests)
  pub is_answer : (slice_get w.pool j ≡ Some answer) × (answer.content ≡ Answered k parts)
  pub made : Contains (w.members v).log (Made k)
  pub taken : HasTaken (w.members v).log j answer
  pub no_clash : IsClash summary.was.held.uses answer.was.held.uses → ⊥
  pub told : IsTrue (holds answer.was.told.uses u)
  pub forgotten : holds (w.members v).told.uses u ≡ false

-- a new validator accepts the token
abbrev pub AcceptsNew : Terms → ℕ → List ℕ → Accepted → Type 0
AcceptsNew t now token first = check_answer t.setting (raised_to new_member.held now) token false ≡ Ok first

-- validator 1 is saved, 0 accepts a token and sends its record, 1 takes it, and 1 is put back
abbrev pub take_and_go_back : ℕ → List ℕ → List Event
take_and_go_back now token = Save 1 ∷ Check 0 now token false ∷ Send 0 ∷ Take 1 now 0 0 None ∷ Restart 1 0 ∷ []

-- there, a log with a send in it does not say what was learned
abbrev pub SendsAreForgotten : Type 0
SendsAreForgotten = (t : Terms) (now : ℕ) (token : List ℕ) (first : Accepted) → now < 2 ^ 64 → AcceptsNew t now token first
    → IsSendForgotten (happen_forgetful (λ v. t) start (take_and_go_back now token)) 1 0 first.used

-- validator 1 is saved, 0 accepts a token and sends its record, 1 takes it and makes a summary, 1 is put back, and it takes 0's answer, in which is nothing that the summary had
abbrev pub sum_and_go_back : ℕ → List ℕ → List Event
sum_and_go_back now token =
    Save 1 ∷ Check 0 now token false ∷ Send 0 ∷ Take 1 now 0 0 None ∷ Sum 1 ∷ Restart 1 0 ∷ Answer 0 now 1 false ∷ Take 1 now 2 0 None ∷ []

-- nor does one with a summary and its answer
abbrev pub AnswersAreForgotten : Type 0
AnswersAreForgotten = (t : Terms) (now : ℕ) (token : List ℕ) (first : Accepted) → now < 2 ^ 64 → IsBytes 16 t.setting.validator_id → AcceptsNew t now token first
    → IsAnswerForgotten (happen_forgetful (λ v. t) start (sum_and_go_back now token)) 1 2 1 first.used
