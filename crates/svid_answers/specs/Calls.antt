-- What the calls of a member are in its group.
use Rattle.std.specs.Prelude.{◌≡◌, ◌≢◌, ℕ, ◌+◌, ◌<◌, ◌^◌, Bool, true, false, ◌==◌, ◌&&◌, List, ◌∷◌, ◌++◌, slice_get, Option, Some, None, if◌then◌else◌, Result}
use Rattle.std.specs.List.{AllByRecursion}
use Rattle.svid_token.specs.declared.refusal.Refusal.{Refusal}
use Rattle.svid_replay.specs.declared.token_use.Use.{Use}
use Rattle.svid_replay.specs.Buckets.{raised_to}
use Rattle.svid_replay.specs.Records as records
use Rattle.svid_claims.specs.Calls.{entry_of, found_by}
use Rattle.svid_claims.specs.Expiries.{PutsTelling, TellsExpiry}
use Rattle.svid_claims.specs.Groups.{Answer, End, Put, Remove, Terms}
use Rattle.svid_claims.specs.Groups as claims
use Rattle.svid_check.specs.Said.{Said}
use Rattle.svid_check.specs.Setting.{Held, Setting}
use Rattle.svid_check.specs.declared.accepted.Accepted.{Accepted}
use Rattle.svid_requests.specs.declared.needs.Needs.TheVariants.{Claim}
use Rattle.svid_requests.specs.declared.judgment.Judgment.{Judgment}
use Rattle.svid_requests.specs.declared.event.Event as requests
use Rattle.svid_requests.specs.declared.event.Event.TheVariants.{Found}
use Rattle.svid_requests.specs.declared.deed.Deed.{Deed}
use Rattle.svid_requests.specs.declared.deed.Deed.TheVariants.{Nothing}
use Rattle.svid_requests.specs.Tables.{at_moment, begun}
use Rattle.svid_member.specs.declared.asked.Asked.{Asked}
use Rattle.svid_member.specs.declared.claimed.Claimed.{Claimed}
use Rattle.svid_member.specs.declared.mode.Mode.{Mode}
use Rattle.svid_member.specs.declared.mode.Mode.TheVariants.{Strict, Bound}
use Rattle.svid_member.specs.Claiming.{Finds, awaited, claim_for, owner_for}
use Rattle.svid_member.specs.Judging.{IsTold, judged_by}
use Rattle.svid_member.specs.declared.readiness.Readiness.{Readiness}
use Rattle.svid_member.specs.Members.{Hears, MemberData, with_requests}
use Rattle.svid_member.specs.Modes.{adds_at_judgment}
use Rattle.svid_answers.specs.Group.{AreAllowed, Event, FindsUse, World, comes, given_by, granted, history, in_claims, passing}
use Rattle.svid_answers.specs.Group.Event.{Group}
use Rattle.svid_answers.specs.Records.{KnowsOf, member_of}

-- the mode of a group's members
abbrev pub mode_of : Terms → Mode
mode_of t = if t.strict then Strict else Bound

-- A member with its record is member v of a group.
pub record Mirrors (t : Terms) (v : ℕ) (w : World) (x : records.State) (m : MemberData) : Type 0 where
  pub mode : m.mode ≡ mode_of t
  pub ahead : m.ahead ≡ t.ahead v
  pub lasts : m.lasts ≡ t.lasts
  pub requests : m.requests ≡ w.requests v
  pub moment : x.moment ≡ (w.claims.members v).moment
  pub knows : t.strict ≡ true → AllByRecursion (KnowsOf x) (w.claims.members v).uses

-- Member v claims a token for a use, and has a store's answer to a put of its key. The claim's owner determines the expiry. In a strict group the
-- owner is of the member's current life.
pub record IsClaimed (t : Terms) (told : List ℕ → ℕ) (v index : ℕ) (w : World) (m : MemberData) (own : Use) (caller : List ℕ) (a : Answer) : Type 0 where
  pub given : slice_get w.claims.answers index ≡ Some a
  pub key_is : a.key ≡ own.key
  pub tells : TellsExpiry told (entry_of (claim_for m own caller))
  pub fits : own.exp < 2 ^ 64
  pub owner : t.strict ≡ true → owner_for m own caller ≡ t.owner v (w.claims.members v).life own.exp

-- What a member reports to a request about a store's answer is what a look at that answer may report: that the token passes, only if the group
-- accepts it by that answer.
abbrev pub FoundIsALook : (V : Type 0) → Type 0
FoundIsALook V = (t : Terms) (events : List Event) (told : List ℕ → ℕ) (v now index up n : ℕ) (a : Answer) (own : Use) (caller : List ℕ) (s : Setting) (said : Said) (h h_new : Held V) (m m_new : MemberData) (c : Claimed)
    → let w = history t events in
    Mirrors t v w h.state m → AllByRecursion (PutsTelling told) (in_claims events) → IsClaimed t told v index w m own caller a
    → awaited m up n said ≡ Some own → Finds s now up n own caller (found_by a) said h h_new m m_new c
    → (j : Judgment) × Hears up (Found n j) m c.deed m_new × ((u : Use) → passing j ≡ Some u → FindsUse t w.claims v now index u)

-- the number of lives of member n, where member v begins its next one, or not
abbrev pub life_after : Bool → (v n life : ℕ) → ℕ
life_after born v n life = if born && n == v then life + 1 else life

-- Allowed events of the group do what a call did. They leave member v as the call leaves it, and the others as they were. They give the answer of the
-- call's deed, for a claim of this owner if for any. They put nothing into a store, and each store and its answers stay as they were. Only a start
-- begins a member's next life.
pub record AreEvents (t : Terms) (born : Bool) (events : List Event) (v : ℕ) (claimed : Option (List ℕ)) (x : records.State) (m : MemberData) (deed : Deed) : Type 0 where
  pub more : List Event
  pub owner : Option (List ℕ)
  pub owner_is : (o : List ℕ) → owner ≡ Some o → claimed ≡ Some o
  pub allowed : AreAllowed t (more ++ events)
  pub puts : (told : List ℕ → ℕ) → AllByRecursion (PutsTelling told) (in_claims events) → AllByRecursion (PutsTelling told) (in_claims (more ++ events))
  pub stores : (history t (more ++ events)).claims.stores ≡ (history t events).claims.stores
  pub answers : (history t (more ++ events)).claims.answers ≡ (history t events).claims.answers
  pub lives : (n : ℕ) → ((history t (more ++ events)).claims.members n).life ≡ life_after born v n ((history t events).claims.members n).life
  pub mirrors : Mirrors t v (history t (more ++ events)) x m
  pub others : (n : ℕ) (y : records.State) (d : MemberData) → n ≢ v → Mirrors t n (history t events) y d → Mirrors t n (history t (more ++ events)) y d
  pub given : (history t (more ++ events)).given ≡ given_by v owner deed (history t events).given

-- This holds for a store's answer: a 200 is for the claim's owner.
abbrev pub FindsAreEvents : (V : Type 0) → Type 0
FindsAreEvents V = (t : Terms) (events : List Event) (told : List ℕ → ℕ) (v now index up n : ℕ) (a : Answer) (own : Use) (caller : List ℕ) (s : Setting) (said : Said) (h h_new : Held V) (m m_new : MemberData) (c : Claimed)
    → let w = history t events in
    AreAllowed t events → Mirrors t v w h.state m → AllByRecursion (PutsTelling told) (in_claims events) → IsClaimed t told v index w m own caller a
    → awaited m up n said ≡ Some own → Finds s now up n own caller (found_by a) said h h_new m m_new c → AreEvents t false events v (Some (owner_for m own caller)) h_new.state m_new c.deed

-- for a judgment
abbrev pub JudgesAreEvents : Type 0
JudgesAreEvents = (t : Terms) (events : List Event) (v now up n : ℕ) (answer : Result Accepted Refusal) (x : records.State) (m m_new : MemberData) (asked : Asked)
    → AreAllowed t events → Mirrors t v (history t events) x m → IsTold up n answer m asked m_new
    → AreEvents t false events v None (judged_by (adds_at_judgment m.mode) (raised_to x now) answer) m_new asked.deed

-- for everything else that the requests hear of
abbrev pub HearsAreEvents : Type 0
HearsAreEvents = (t : Terms) (events : List Event) (v up : ℕ) (e : requests.Event) (x : records.State) (m m_new : MemberData) (deed : Deed)
    → AreAllowed t events → Mirrors t v (history t events) x m → granted e ≡ None → Hears up e m deed m_new → AreEvents t false events v None x m_new deed

-- for a request that arrives
abbrev pub ComesAreEvents : Type 0
ComesAreEvents = (t : Terms) (events : List Event) (v up : ℕ) (refused : Bool) (x : records.State) (m : MemberData)
    → AreAllowed t events → Mirrors t v (history t events) x m → AreEvents t false events v None x (with_requests m (comes refused (at_moment m.requests up))) Nothing

-- for joining the record with another
abbrev pub JoinsAreEvents : Type 0
JoinsAreEvents = (t : Terms) (events : List Event) (v : ℕ) (x b : records.State) (m : MemberData)
    → AreAllowed t events → Mirrors t v (history t events) x m → AreEvents t false events v None (records.join x b) m Nothing

-- and for a start with any record
abbrev pub BeginsAreEvents : Type 0
BeginsAreEvents = (t : Terms) (events : List Event) (v wait : ℕ) (life : List ℕ) (knows : Readiness) (x : records.State)
    → AreAllowed t events → AreEvents t true events v None x (member_of (mode_of t) life (t.ahead v) t.lasts knows (begun Claim wait)) Nothing

-- What happens in the stores leaves each member as it was.
abbrev pub IsOfStores : claims.Event → Type 0
IsOfStores (Put key owner exp time) = Unit {0}
IsOfStores (Remove key now) = Unit {0}
IsOfStores (End s entries deaf) = Unit {0}
IsOfStores _ = ⊥

abbrev pub StoresKeepMembers : Type 0
StoresKeepMembers = (t : Terms) (events : List Event) (e : claims.Event) (v : ℕ) (x : records.State) (m : MemberData)
    → IsOfStores e → Mirrors t v (history t events) x m → Mirrors t v (history t (Group e ∷ events)) x m
