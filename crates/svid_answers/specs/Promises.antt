-- What we prove of a group that answers requests.
use Rattle.std.specs.Prelude.{◌≡◌, ℕ, ◌≤◌, Bool, true, false, ◌==◌, ◌&&◌, List, slice_get, Option, Some, bytes_eq, count_by}
use Rattle.std.specs.List.{AllByRecursion}
use Rattle.svid_replay.specs.declared.token_use.Use.{Use}
use Rattle.svid_claims.specs.Groups.{Accept, Accepts, Answer, Terms, happen, happens, start}
use Rattle.svid_claims.specs.Groups as claims
use Rattle.svid_claims.specs.Once.{HasMargin, HaveOwners}
use Rattle.svid_requests.specs.declared.verdict.Verdict.{Verdict}
use Rattle.svid_requests.specs.declared.verdict.Verdict.TheVariants.{Accept as Accepted}
use Rattle.svid_answers.specs.Group.{AreAllowed, Event, Given, history}

-- a use is of the token with this key and this expiry
abbrev pub is_token : List ℕ → ℕ → Use → Bool
is_token key exp u = bytes_eq key u.key && u.exp == exp

-- a request was answered 200, with a use that passes a test
abbrev pub accepts : (Use → Bool) → Verdict → Bool
accepts p (Accepted u) = p u
accepts p _ = false

-- how many requests for a token were answered 200, in the whole group
abbrev pub answered : List ℕ → ℕ → List Given → ℕ
answered key exp given = count_by (λ g. accepts (is_token key exp) g.verdict) given

-- A strict group answers no token 200 twice.
abbrev pub TokensAreAnsweredOnce : Type 0
TokensAreAnsweredOnce = (t : Terms) (events : List Event) (key : List ℕ) (exp : ℕ)
    → t.strict ≡ true → HasMargin t → HaveOwners t → AreAllowed t events → answered key exp (history t events).given ≤ 1

-- strict or not, all claims by which one token is answered 200 have one owner
abbrev pub TokensAreAnsweredToOneOwner : Type 0
TokensAreAnsweredToOneOwner = (t : Terms) (events : List Event) (key : List ℕ) (exp : ℕ)
    → HasMargin t → AreAllowed t events → (owner : List ℕ) × AllByRecursion (λ g. accepts (is_token key exp) g.verdict ≡ true → g.owner ≡ Some owner) (history t events).given

-- one of the answers is 200 for a token, by a claim of this owner
pub record IsAnsweredTo (given : List Given) (key : List ℕ) (exp : ℕ) (owner : List ℕ) : Type 0 where
  pub index : ℕ
  pub answer : Given
  pub there : slice_get given index ≡ Some answer
  pub accepted : accepts (is_token key exp) answer.verdict ≡ true
  pub owner_is : answer.owner ≡ Some owner

-- so if no two callers have one owner, no token is answered 200 to two callers
abbrev pub TokensAreAnsweredToOneCaller : Type 0
TokensAreAnsweredToOneCaller = (t : Terms) (events : List Event) (key : List ℕ) (exp : ℕ) (owner_of : List ℕ → ℕ → List ℕ) (a b : List ℕ)
    → let given = (history t events).given in
    HasMargin t → AreAllowed t events → (owner_of a exp ≡ owner_of b exp → a ≡ b) → IsAnsweredTo given key exp (owner_of a exp) → IsAnsweredTo given key exp (owner_of b exp) → a ≡ b

-- Earlier in a group's history, member v looked at a store's answer and accepted the token of a use by it. Something has happened since.
pub record WasFound (t : Terms) (w : claims.World) (v : ℕ) (owner : Option (List ℕ)) (u : Use) : Type 0 where
  pub before : List claims.Event
  pub between : List claims.Event
  pub now : ℕ
  pub index : ℕ
  pub answer : Answer
  pub accepts : Accepts t (happen t start before) v now index answer
  pub key_is : answer.key ≡ u.key
  pub exp_is : answer.found.exp ≡ u.exp
  pub owner_is : owner ≡ Some answer.found.owner
  pub world_is : w ≡ happen t (happens t (happen t start before) (Accept v now index)) between

abbrev pub IsFounded : Terms → claims.World → Given → Type 0
IsFounded t w g = (u : Use) → g.verdict ≡ Accepted u → WasFound t w g.member g.owner u

-- Each 200 is for a claim that its member had found in a store, and accepted.
abbrev pub AnsweredIsFound : Type 0
AnsweredIsFound = (t : Terms) (events : List Event) → AreAllowed t events → let w = history t events in AllByRecursion (IsFounded t w.claims) w.given
