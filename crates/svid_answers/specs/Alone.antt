-- One member in mode once, over its restarts: its record, its open requests, and what it answered.
use Rattle.std.specs.Prelude.{◌≡◌, ◌⊎◌, ℕ, ◌<◌, ◌≤◌, Bool, true, false, List, [], ◌∷◌, count_by, Option, None, Some}
use Rattle.svid_replay.specs.declared.token_use.Use.{Use}
use Rattle.svid_replay.specs.Buckets.{raised_to}
use Rattle.svid_replay.specs.Records as records
use Rattle.svid_replay.specs.Uses.{has_use_of}
use Rattle.svid_check.specs.Changes.{gains}
use Rattle.svid_requests.specs.declared.needs.Needs.TheVariants.{Write}
use Rattle.svid_requests.specs.declared.judgment.Judgment.TheVariants.{Passes}
use Rattle.svid_requests.specs.declared.verdict.Verdict.{Verdict}
use Rattle.svid_requests.specs.declared.verdict.Verdict.TheVariants.{Accept}
use Rattle.svid_requests.specs.declared.deed.Deed.{Deed}
use Rattle.svid_requests.specs.declared.deed.Deed.TheVariants as deed
use Rattle.svid_requests.specs.declared.event.Event as requests
use Rattle.svid_requests.specs.declared.event.Event.TheVariants.{Judged, Wrote, Send, Found, Leave, Overdue}
use Rattle.svid_requests.specs.Tables.{State, at_moment, begun, heard, heard_deed}
use Rattle.svid_member.specs.declared.mode.Mode.TheVariants.{Once}
use Rattle.svid_member.specs.Modes.{needs_of}
use Rattle.svid_answers.specs.Group.{comes, granted, passing}
use Rattle.svid_answers.specs.Promises.{accepts, is_token}
use Rattle.svid_answers.specs.Records.{Knows}

-- its record, its open requests, and all answers of all of its lives, last first
pub record Life : Type 0 where
  pub held : records.State
  pub requests : State
  pub given : List Verdict

-- What may happen. At each arrival and each event that requests hear of, memory may be refused.
-- - `Join`: its record is joined with another, as by each call that takes a moment, a message or a withdrawal.
-- - `Come`: a request arrives.
-- - `Judges`: its validator judges the token of request n at the time `now`, and accepts it with this use.
-- - `Hear`: its requests hear of something else.
-- - `Start`: it ends, and starts with the record that it reads, with a state folder or without.
pub data Event : Type 0 where
  Join : (b : records.State) → Event
  Come : (up : ℕ) (refused : Bool) → Event
  Judges : (now up n : ℕ) (refused : Bool) (u : Use) → Event
  Hear : (up : ℕ) (refused : Bool) (e : requests.Event) → Event
  Start : (read : records.State) (kept : Bool) (wait : ℕ) → Event

-- a deed answers a request, or not
abbrev pub given_by : Deed → List Verdict → List Verdict
given_by (deed.Answer n verdict next) given = verdict ∷ given
given_by _ given = given

-- the requests hear of an event, and the record is this one then
abbrev pub hears : Life → records.State → Bool → State → requests.Event → Life
hears w held refused s e = record { held = held; requests = heard refused s e; given = given_by (heard_deed refused s e) w.given }

-- what an event leaves
abbrev pub happens : Life → Event → Life
happens w (Join b) = record { held = records.join w.held b; requests = w.requests; given = w.given }
happens w (Come up refused) = record { held = w.held; requests = comes refused (at_moment w.requests up); given = w.given }
happens w (Judges now up n refused u) = hears w (gains (raised_to w.held now) (Some u)) refused (at_moment w.requests up) (Judged n (Passes u))
happens w (Hear up refused e) = hears w w.held refused (at_moment w.requests up) e
happens w (Start read kept wait) = record { held = read; requests = begun (needs_of Once kept) wait; given = w.given }

-- a new member
abbrev pub start : Life
start = record { held = records.state_of 0 []; requests = begun (needs_of Once true) 0; given = [] }

-- a whole history: the events, the last one first
abbrev pub history : List Event → Life
history [] = start
history (e ∷ events) = happens (history events) e

-- the use with which an event tells that a validator accepted a token
abbrev pub approved : requests.Event → Option Use
approved (Judged n j) = passing j
approved (Found n j) = None
approved (Wrote n ok) = None
approved (Send n) = None
approved (Leave n) = None
approved Overdue = None

-- one of the answers accepts a token with this use
abbrev pub WasGiven : List Verdict → Use → Type 0
WasGiven [] u = ⊥
WasGiven (v ∷ given) u = (v ≡ Accept u) ⊎ WasGiven given u

-- Conditions on the program and its disk. A token is accepted only by the verdict: it is live, and the record has no use of its key. No other event
-- says that a token was accepted. At a start, the record that is read knows each use with which a request was answered 200.
abbrev pub IsAllowed : Life → Event → Type 0
IsAllowed w (Join b) = Unit {0}
IsAllowed w (Come up refused) = Unit {0}
IsAllowed w (Judges now up n refused u) = let x = raised_to w.held now in (x.moment < u.exp) × (has_use_of x.uses u.key ≡ false)
IsAllowed w (Hear up refused e) = approved e ≡ None
IsAllowed w (Start read kept wait) = (u : Use) → WasGiven w.given u → Knows read u

abbrev pub AreAllowed : List Event → Type 0
AreAllowed [] = Unit {0}
AreAllowed (e ∷ events) = AreAllowed events × IsAllowed (history events) e

-- how many requests for a token were answered 200, in all lives
abbrev pub answered : List ℕ → ℕ → List Verdict → ℕ
answered key exp given = count_by (accepts (is_token key exp)) given

-- No token is answered 200 twice by a member, over its restarts.
abbrev pub TokensAreAnsweredOnceHere : Type 0
TokensAreAnsweredOnceHere = (events : List Event) (key : List ℕ) (exp : ℕ) → AreAllowed events → answered key exp (history events).given ≤ 1

-- Where an acceptance needs a write, and only the validator accepts, a request is answered 200 when its use is on the disk, and at no other event.
abbrev pub AnsweredIsWritten : Type 0
AnsweredIsWritten = (events : List Event) (up n : ℕ) (refused : Bool) (e : requests.Event) (u : Use) (next : Option ℕ)
    → let s = at_moment (history events).requests up in
    s.needs ≡ Write → granted e ≡ None → heard_deed refused s e ≡ deed.Answer n (Accept u) next → e ≡ Wrote n true
