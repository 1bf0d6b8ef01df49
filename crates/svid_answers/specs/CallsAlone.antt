-- What the calls of a member in mode once are in its history.
use Rattle.std.specs.Prelude.{◌≡◌, ℕ, Bool, List, ◌++◌, Some, None, Result}
use Rattle.svid_token.specs.Rows.{Answers}
use Rattle.svid_token.specs.declared.refusal.Refusal.{Refusal}
use Rattle.svid_replay.specs.declared.token_use.Use.{Use}
use Rattle.svid_replay.specs.Buckets.{raised_to}
use Rattle.svid_replay.specs.Records as records
use Rattle.svid_check.specs.Said.{Said}
use Rattle.svid_check.specs.Setting.{Setting}
use Rattle.svid_check.specs.Verdict.{verdict_on}
use Rattle.svid_check.specs.declared.accepted.Accepted.{Accepted}
use Rattle.svid_requests.specs.declared.event.Event as requests
use Rattle.svid_requests.specs.declared.deed.Deed.{Deed}
use Rattle.svid_requests.specs.declared.deed.Deed.TheVariants.{Nothing}
use Rattle.svid_requests.specs.Tables.{at_moment, begun}
use Rattle.svid_member.specs.declared.asked.Asked.{Asked}
use Rattle.svid_member.specs.declared.mode.Mode.TheVariants.{Once}
use Rattle.svid_member.specs.Claiming.{awaited}
use Rattle.svid_member.specs.Judging.{IsTold, judged_by}
use Rattle.svid_member.specs.declared.readiness.Readiness.{Readiness}
use Rattle.svid_member.specs.Members.{Hears, MemberData, with_requests}
use Rattle.svid_member.specs.Modes.{adds_at_judgment, needs_of}
use Rattle.svid_answers.specs.Alone.{AreAllowed, Event, Life, WasGiven, approved, given_by, history}
use Rattle.svid_answers.specs.Group.{comes}
use Rattle.svid_answers.specs.Records.{Knows, member_of}

-- a member with its record is the one that a history leaves
pub record IsLife (w : Life) (x : records.State) (m : MemberData) : Type 0 where
  pub mode : m.mode ≡ Once
  pub held : w.held ≡ x
  pub requests : w.requests ≡ m.requests

-- Allowed events do what a call did: they leave the member as the call leaves it, and give the answer of its
-- deed.
pub record AreEvents (events : List Event) (x : records.State) (m : MemberData) (deed : Deed) : Type 0 where
  pub more : List Event
  pub allowed : AreAllowed (more ++ events)
  pub leaves : IsLife (history (more ++ events)) x m
  pub given : (history (more ++ events)).given ≡ given_by deed (history events).given

-- This holds for a judgment
abbrev pub JudgesAreEvents : Type 0
JudgesAreEvents = (events : List Event) (now up n : ℕ) (s : Setting) (said : Said) (answer : Result Accepted Refusal) (x : records.State) (m m_new : MemberData) (asked : Asked)
    → let raised = raised_to x now in
    AreAllowed events → IsLife (history events) x m → Answers Some answer (verdict_on s raised.moment raised.uses said) → IsTold up n answer m asked m_new
    → AreEvents events (judged_by (adds_at_judgment m.mode) raised answer) m_new asked.deed

-- for everything else that the requests hear of
abbrev pub HearsAreEvents : Type 0
HearsAreEvents = (events : List Event) (up : ℕ) (e : requests.Event) (x : records.State) (m m_new : MemberData) (deed : Deed)
    → AreAllowed events → IsLife (history events) x m → approved e ≡ None → Hears up e m deed m_new → AreEvents events x m_new deed

-- for a request that arrives
abbrev pub ComesAreEvents : Type 0
ComesAreEvents = (events : List Event) (up : ℕ) (refused : Bool) (x : records.State) (m : MemberData)
    → AreAllowed events → IsLife (history events) x m → AreEvents events x (with_requests m (comes refused (at_moment m.requests up))) Nothing

-- for joining the record with another
abbrev pub JoinsAreEvents : Type 0
JoinsAreEvents = (events : List Event) (x b : records.State) (m : MemberData) → AreAllowed events → IsLife (history events) x m → AreEvents events (records.join x b) m Nothing

-- and for a start, if the record that it reads knows what was answered 200
abbrev pub BeginsAreEvents : Type 0
BeginsAreEvents = (events : List Event) (kept : Bool) (wait ahead lasts : ℕ) (life : List ℕ) (known : Readiness) (x : records.State)
    → AreAllowed events → ((u : Use) → WasGiven (history events).given u → Knows x u) → AreEvents events x (member_of Once life ahead lasts known (begun (needs_of Once kept) wait)) Nothing

-- None of its requests waits for a claim, so a store's answer does nothing.
abbrev pub NoneIsClaimed : Type 0
NoneIsClaimed = (events : List Event) (up n : ℕ) (said : Said) (x : records.State) (m : MemberData) → IsLife (history events) x m → awaited m up n said ≡ None
