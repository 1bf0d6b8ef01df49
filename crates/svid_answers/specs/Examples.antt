-- Histories in which requests are answered 200, so that the laws speak of something.
use Rattle.std.specs.Prelude.{◌≡◌, ℕ, false, true, List, [], ◌∷◌, length}
use Rattle.svid_replay.specs.declared.token_use.Use.{Use}
use Rattle.svid_replay.specs.Records as records
use Rattle.svid_claims.specs.Groups.{Put}
use Rattle.svid_claims.specs.Histories.{group_of, one_key, own}
use Rattle.svid_claims.specs.Once.{HasMargin, HaveOwners}
use Rattle.svid_requests.specs.declared.judgment.Judgment.TheVariants.{Passes, Fails}
use Rattle.svid_requests.specs.declared.event.Event.TheVariants.{Judged, Send, Wrote}
use Rattle.svid_answers.specs.Alone as alone
use Rattle.svid_answers.specs.Group.{AreAllowed, Event, history}
use Rattle.svid_answers.specs.Group.Event.{Group, Come, Hear, Looks, Begin}
use Rattle.svid_answers.specs.Promises.{answered}

-- the use of a token
abbrev pub used : Use
used = record { exp = 8; key = one_key; validator_id = []; at = 1; withdrawn = false }

-- Member v gets a request, its token is judged, and its claim for this owner is sent; last first. The owner is of the member's first life after its
-- start.
abbrev pub claims_for : (v : ℕ) (owner : List ℕ) → List Event → List Event
claims_for v owner events = Group (Put one_key owner 8 2) ∷ Hear v 0 false (Send 0) ∷ Hear v 0 false (Judged 0 (Passes used)) ∷ Come v 0 false ∷ Begin v 7 0 [] ∷ events

-- Strict: two members claim a token. The store answers that it is the first one's.
abbrev pub strict_events : List Event
strict_events = Looks 1 1 1 0 0 false (Fails 125) ∷ Looks 0 1 0 0 0 false (Passes used) ∷ claims_for 1 (own 1 1 8) (claims_for 0 (own 0 1 8) [])

pub record StrictAnswers : Type 0 where
  pub margin : HasMargin (group_of true 3 3 own)
  pub owners : HaveOwners (group_of true 3 3 own)
  pub allowed : AreAllowed (group_of true 3 3 own) strict_events
  pub both : length (history (group_of true 3 3 own) strict_events).given ≡ 2
  pub once : answered one_key 8 (history (group_of true 3 3 own) strict_events).given ≡ 1

-- Bound to callers: two members claim a token for one caller, and both answer 200.
abbrev pub bound_events : List Event
bound_events = Looks 1 1 1 0 0 false (Passes used) ∷ Looks 0 1 0 0 0 false (Passes used) ∷ claims_for 1 (9 ∷ []) (claims_for 0 (9 ∷ []) [])

pub record BoundAnswers : Type 0 where
  pub margin : HasMargin (group_of false 3 3 own)
  pub allowed : AreAllowed (group_of false 3 3 own) bound_events
  pub twice : answered one_key 8 (history (group_of false 3 3 own) bound_events).given ≡ 2

-- In mode once: a request comes, its token is accepted, and its use is written.
abbrev pub once_events : List alone.Event
once_events = alone.Hear 0 false (Wrote 0 true) ∷ alone.Judges 1 0 0 false used ∷ alone.Come 0 false ∷ alone.Start (records.state_of 0 []) true 7 ∷ []

-- Without a state folder it is answered as it is accepted.
abbrev pub unkept_events : List alone.Event
unkept_events = alone.Judges 1 0 0 false used ∷ alone.Come 0 false ∷ alone.Start (records.state_of 0 []) false 7 ∷ []

pub record OnceAnswers : Type 0 where
  pub allowed : alone.AreAllowed once_events
  pub once : alone.answered one_key 8 (alone.history once_events).given ≡ 1
  pub unkept_allowed : alone.AreAllowed unkept_events
  pub unkept : alone.answered one_key 8 (alone.history unkept_events).given ≡ 1
