-- A group whose members claim tokens in stores and answer requests: what may happen in it, and what was answered.
use Rattle.std.specs.Prelude.{◌≡◌, ℕ, Bool, ◌==◌, List, [], ◌∷◌, ◌++◌, slice_get, Option, Some, None, option_map, if◌then◌else◌}
use Rattle.svid_replay.specs.declared.token_use.Use.{Use}
use Rattle.svid_claims.specs.Groups.{Accept, Accepts, Answer, KnownUse, Restart, Terms}
use Rattle.svid_claims.specs.Groups as claims
use Rattle.svid_requests.specs.declared.needs.Needs.TheVariants.{Claim}
use Rattle.svid_requests.specs.declared.judgment.Judgment.{Judgment}
use Rattle.svid_requests.specs.declared.judgment.Judgment.TheVariants.{Passes, Holds, Fails}
use Rattle.svid_requests.specs.declared.verdict.Verdict.{Verdict}
use Rattle.svid_requests.specs.declared.deed.Deed.{Deed}
use Rattle.svid_requests.specs.declared.deed.Deed.TheVariants as deed
use Rattle.svid_requests.specs.declared.event.Event as requests
use Rattle.svid_requests.specs.declared.event.Event.TheVariants.{Judged, Wrote, Send, Found, Leave, Overdue}
use Rattle.svid_requests.specs.Tables.{State, at_moment, begun, came, heard, heard_deed}

-- an answer to a request: from which member, to which of its requests, the verdict, and the owner of the claim that was found if the member looked at
-- a store's answer
pub record Given : Type 0 where
  pub member : ℕ
  pub number : ℕ
  pub verdict : Verdict
  pub owner : Option (List ℕ)

-- a group: its members and stores, the open requests of each member, and all answers to requests, last first
pub record World : Type 0 where
  pub claims : claims.World
  pub requests : ℕ → State
  pub given : List Given

-- What may happen. At each arrival and each event that requests hear of, memory may be refused.
-- - `Group`: anything in the members' records and in the stores.
-- - `Come`: member v gets a request.
-- - `Hear`: its requests hear of something.
-- - `Looks`: it looks at a store's answer, and its request n hears of that.
-- - `Begin`: it begins its next life, with any record, and with no requests.
pub data Event : Type 0 where
  Group : (e : claims.Event) → Event
  Come : (v up : ℕ) (refused : Bool) → Event
  Hear : (v up : ℕ) (refused : Bool) (e : requests.Event) → Event
  Looks : (v now index up n : ℕ) (refused : Bool) (j : Judgment) → Event
  Begin : (v wait moment : ℕ) (uses : List KnownUse) → Event

-- a deed of member v answers a request, or not
abbrev pub given_by : ℕ → Option (List ℕ) → Deed → List Given → List Given
given_by v owner (deed.Answer n verdict next) given = record { member = v; number = n; verdict = verdict; owner = owner } ∷ given
given_by v owner _ given = given

-- the owner of the claim that an answer found
abbrev pub owner_in : Option Answer → Option (List ℕ)
owner_in o = option_map (λ a. a.found.owner) o

-- member v has these requests now
abbrev pub put : (ℕ → State) → ℕ → State → ℕ → State
put requests v s = λ n. if n == v then s else requests n

-- a request comes, unless memory is refused
abbrev pub comes : Bool → State → State
comes refused s = if refused then s else came s

-- the requests of member v hear of an event, in this group
abbrev pub hears : World → claims.World → ℕ → Option (List ℕ) → Bool → State → requests.Event → World
hears w group v owner refused s e = record { claims = group; requests = put w.requests v (heard refused s e); given = given_by v owner (heard_deed refused s e) w.given }

-- the use with which a judgment accepts a token
abbrev pub passing : Judgment → Option Use
passing (Passes u) = Some u
passing (Holds u) = Some u
passing (Fails why) = None

-- the use with which a judgment accepts one that needs nothing more
abbrev pub holding : Judgment → Option Use
holding (Passes u) = None
holding (Holds u) = Some u
holding (Fails why) = None

-- the use with which an event may answer a request 200, where an acceptance needs a claim
abbrev pub granted : requests.Event → Option Use
granted (Judged n j) = holding j
granted (Found n j) = passing j
granted (Wrote n ok) = None
granted (Send n) = None
granted (Leave n) = None
granted Overdue = None

-- what happened in the members and the stores, the first event first
abbrev pub in_claims : List Event → List claims.Event
in_claims [] = []
in_claims (Group e ∷ events) = in_claims events ++ e ∷ []
in_claims (Come v up refused ∷ events) = in_claims events
in_claims (Hear v up refused e ∷ events) = in_claims events
in_claims (Looks v now index up n refused j ∷ events) = in_claims events ++ Accept v now index ∷ []
in_claims (Begin v wait moment uses ∷ events) = in_claims events ++ Restart v moment uses ∷ []

module _ (t : Terms) where
  abbrev pub happens : World → Event → World
  happens w (Group e) = record { claims = claims.happens t w.claims e; requests = w.requests; given = w.given }
  happens w (Come v up refused) = record { claims = w.claims; requests = put w.requests v (comes refused (at_moment (w.requests v) up)); given = w.given }
  happens w (Hear v up refused e) = hears w w.claims v None refused (at_moment (w.requests v) up) e
  happens w (Looks v now index up n refused j) =
      hears w (claims.happens t w.claims (Accept v now index)) v (owner_in (slice_get w.claims.answers index)) refused (at_moment (w.requests v) up) (Found n j)
  happens w (Begin v wait moment uses) = record { claims = claims.happens t w.claims (Restart v moment uses); requests = put w.requests v (begun Claim wait); given = w.given }

  -- no member has a request, and no store an entry
  abbrev pub start : World
  start = record { claims = claims.start; requests = λ v. begun Claim 0; given = [] }

  -- a whole history: the events, the last one first
  abbrev pub history : List Event → World
  history [] = start
  history (e ∷ events) = happens (history events) e

  -- member v accepts the token of a use by a store's answer
  pub record FindsUse (w : claims.World) (v now index : ℕ) (u : Use) : Type 0 where
    pub answer : Answer
    pub accepts : Accepts t w v now index answer
    pub key_is : answer.key ≡ u.key
    pub exp_is : answer.found.exp ≡ u.exp

  -- Conditions on the program. Only a look at a store's answer accepts a token that needs nothing more, and only if the member accepts the token of
  -- this use by that answer.
  abbrev pub IsAllowed : World → Event → Type 0
  IsAllowed w (Group e) = Unit {0}
  IsAllowed w (Come v up refused) = Unit {0}
  IsAllowed w (Hear v up refused e) = granted e ≡ None
  IsAllowed w (Looks v now index up n refused j) = (u : Use) → passing j ≡ Some u → FindsUse w.claims v now index u
  IsAllowed w (Begin v wait moment uses) = Unit {0}

  abbrev pub AreAllowed : List Event → Type 0
  AreAllowed [] = Unit {0}
  AreAllowed (e ∷ events) = AreAllowed events × IsAllowed (history events) e
