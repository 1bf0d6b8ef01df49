-- The calls of a group's members and what happens in its stores, one after the other.
use Rattle.std.specs.Prelude.{◌≡◌, ◌⊎◌, ℕ, ◌<◌, ◌≤◌, ◌^◌, Bool, true, false, ◌==◌, List, [], ◌∷◌, map, slice_get, Option, None, Some, if◌then◌else◌, Result}
use Rattle.std.specs.List.{AllByRecursion}
use Rattle.svid_token.specs.declared.refusal.Refusal.{Refusal}
use Rattle.svid_replay.specs.declared.token_use.Use.{Use}
use Rattle.svid_replay.specs.Buckets.{raised_to}
use Rattle.svid_replay.specs.Records as records
use Rattle.svid_claims.specs.Calls.{entry_of, found_by}
use Rattle.svid_claims.specs.Expiries.{PutsTelling, TellsExpiry}
use Rattle.svid_claims.specs.Groups.{Answer, Store, Terms, new_member, new_store}
use Rattle.svid_claims.specs.Groups as claims
use Rattle.svid_claims.specs.Once.{HasMargin, HaveOwners}
use Rattle.svid_claims.specs.Owners.{owner_of_caller}
use Rattle.svid_check.specs.Said.{Said}
use Rattle.svid_check.specs.Setting.{Held, Setting}
use Rattle.svid_check.specs.declared.accepted.Accepted.{Accepted}
use Rattle.svid_requests.specs.declared.needs.Needs.TheVariants.{Claim}
use Rattle.svid_requests.specs.declared.verdict.Verdict.{Verdict}
use Rattle.svid_requests.specs.declared.verdict.Verdict.TheVariants.{Accept}
use Rattle.svid_requests.specs.declared.event.Event as requests
use Rattle.svid_requests.specs.declared.deed.Deed.{Deed}
use Rattle.svid_requests.specs.declared.deed.Deed.TheVariants as deed
use Rattle.svid_requests.specs.Tables.{at_moment, begun}
use Rattle.svid_member.specs.Claiming.{Finds, awaited, claim_for, owner_for}
use Rattle.svid_member.specs.Judging.{IsTold, judged_by}
use Rattle.svid_member.specs.declared.asked.Asked.{Asked}
use Rattle.svid_member.specs.declared.claimed.Claimed.{Claimed}
use Rattle.svid_member.specs.declared.readiness.Readiness.{Readiness}
use Rattle.svid_member.specs.Members.{Hears, MemberData, with_readiness, with_requests}
use Rattle.svid_member.specs.Modes.{adds_at_judgment}
use Rattle.svid_answers.specs.Calls.{IsOfStores, life_after, mode_of}
use Rattle.svid_answers.specs.Alone.{answered}
use Rattle.svid_answers.specs.Group.{comes, granted}
use Rattle.svid_answers.specs.Promises.{accepts, is_token}
use Rattle.svid_answers.specs.Records.{member_of}

-- an answer to a request, and the caller whose claim it rests on, if it rests on one
pub record Response : Type 0 where
  pub verdict : Verdict
  pub caller : Option (List ℕ)

-- The stores and all answers that they gave; for each member, the number of its lives before this one, its record, and the member itself; and all
-- answers to requests, last first.
pub record Now : Type 0 where
  pub stores : ℕ → Store
  pub answers : List Answer
  pub lives : ℕ → ℕ
  pub held : ℕ → records.State
  pub members : ℕ → MemberData
  pub given : List Response

-- What happens.
-- - `InStore`: a put, a removal, or the end of an epoch.
-- - `Find`: request n of member v hears a store's answer to a put of its claim. `caller` presents the token.
-- - `Judge`, `Hear`, `Come`, `Join`, `Know`: as for one member alone, by member v.
-- - `Begin`: member v ends, and starts with any record.
pub data Call (V : Type 0) : Type 0 where
  InStore : claims.Event → Call V
  Find : (v now index up n : ℕ) (own : Use) (caller : List ℕ) (s : Setting) (said : Said) (h h_new : Held V) → Call V
  Judge : (v now up n : ℕ) → Call V
  Hear : (v up : ℕ) (e : requests.Event) → Call V
  Come : (v up : ℕ) (refused : Bool) → Call V
  Join : (v : ℕ) (b : records.State) → Call V
  Know : (v : ℕ) (knows : Readiness) → Call V
  Begin : (v wait : ℕ) (life : List ℕ) (knows : Readiness) (read : records.State) → Call V

-- of v there is this now, and of each other what there was
abbrev pub changed : {A : Type 0} → (ℕ → A) → ℕ → A → ℕ → A
changed of v now = λ n. if n == v then now else of n

-- the stores as a world of their own
abbrev pub stores_of : Now → claims.World
stores_of a = record { members = λ v. new_member; stores = a.stores; answers = a.answers }

-- a deed answers a request, or not; the answer rests on the claim of this caller, if on one
abbrev pub given_by : Option (List ℕ) → Deed → List Response → List Response
given_by caller (deed.Answer n verdict next) given = record { verdict = verdict; caller = caller } ∷ given
given_by caller _ given = given

-- member v is this now, and its deed did so
abbrev pub moved : Now → ℕ → Option (List ℕ) → records.State → MemberData → Deed → Now
moved a v caller x m d = record {
  stores = a.stores;
  answers = a.answers;
  lives = a.lives;
  held = changed a.held v x;
  members = changed a.members v m;
  given = given_by caller d a.given;
}

-- Member v claims a token for a use, and has a store's answer to a put of its key. The claim's owner determines the expiry. In a strict group the
-- owner is of this life of the member.
pub record Claims (t : Terms) (told : List ℕ → ℕ) (a : Now) (v index : ℕ) (own : Use) (caller : List ℕ) (answer : Answer) : Type 0 where
  pub given : slice_get a.answers index ≡ Some answer
  pub key_is : answer.key ≡ own.key
  pub tells : TellsExpiry told (entry_of (claim_for (a.members v) own caller))
  pub fits : own.exp < 2 ^ 64
  pub owner : t.strict ≡ true → owner_for (a.members v) own caller ≡ t.owner v (a.lives v) own.exp

module _ (V : Type 0) (t : Terms) (told : List ℕ → ℕ) where
  -- What a call does, by the contracts. A call that finds nothing to do does nothing. Only `Find` gives a member a store's answer.
  abbrev pub Does : Call V → Now → Now → Type 0
  Does (InStore e) a b =
      IsOfStores e × PutsTelling told e
      × (b ≡ record { stores = (claims.happens t (stores_of a) e).stores; answers = (claims.happens t (stores_of a) e).answers; lives = a.lives; held = a.held; members = a.members; given = a.given })
  Does (Find v now index up n own caller s said h h_new) a b =
      (b ≡ a) ⊎ ((answer : Answer) × (m : MemberData) × (c : Claimed) × Claims t told a v index own caller answer × (h.state ≡ a.held v)
      × (awaited (a.members v) up n said ≡ Some own) × Finds s now up n own caller (found_by answer) said h h_new (a.members v) m c
      × (b ≡ moved a v (Some caller) h_new.state m c.deed))
  Does (Judge v now up n) a b =
      (b ≡ a) ⊎ ((answer : Result Accepted Refusal) × (m : MemberData) × (asked : Asked) × IsTold up n answer (a.members v) asked m
      × (b ≡ moved a v None (judged_by (adds_at_judgment (a.members v).mode) (raised_to (a.held v) now) answer) m asked.deed))
  Does (Hear v up e) a b = (m : MemberData) × (d : Deed) × (granted e ≡ None) × Hears up e (a.members v) d m × (b ≡ moved a v None (a.held v) m d)
  Does (Come v up refused) a b = (b ≡ a) ⊎ (b ≡ moved a v None (a.held v) (with_requests (a.members v) (comes refused (at_moment (a.members v).requests up))) deed.Nothing)
  Does (Join v other) a b = b ≡ moved a v None (records.join (a.held v) other) (a.members v) deed.Nothing
  Does (Know v knows) a b = b ≡ moved a v None (a.held v) (with_readiness (a.members v) knows) deed.Nothing
  Does (Begin v wait life knows read) a b = b ≡ record {
    stores = a.stores;
    answers = a.answers;
    lives = λ n. life_after true v n (a.lives n);
    held = changed a.held v read;
    members = changed a.members v (member_of (mode_of t) life (t.ahead v) t.lasts knows (begun Claim wait));
    given = a.given;
  }

  -- A group in which nothing has happened, and whose members judge no token yet. Each has a life of its own.
  abbrev pub nothing : (ℕ → List ℕ) → Readiness → Now
  nothing life knows = record {
    stores = λ n. new_store;
    answers = [];
    lives = λ v. 0;
    held = λ v. records.state_of 0 [];
    members = λ v. member_of (mode_of t) (life v) (t.ahead v) t.lasts knows (begun Claim 0);
    given = [];
  }

  -- all that happened so far, the last first, left this
  abbrev pub Run : List (Call V) → Now → Type 0
  Run [] b = (life : ℕ → List ℕ) × (knows : Readiness) × (b ≡ nothing life knows)
  Run (c ∷ calls) b = (a : Now) × Run calls a × Does c a b

-- the verdicts of answers
abbrev pub verdicts : List Response → List Verdict
verdicts given = map (λ r. r.verdict) given

-- Whatever the calls and events, a strict group answers no token 200 twice.
abbrev pub RunsAnswerOnce : (V : Type 0) → Type 0
RunsAnswerOnce V = (t : Terms) (told : List ℕ → ℕ) (calls : List (Call V)) (b : Now) (key : List ℕ) (exp : ℕ)
    → t.strict ≡ true → HasMargin t → HaveOwners t → Run V t told calls b → answered key exp (verdicts b.given) ≤ 1

-- one of the answers is 200 for a token, and rests on the claim of this caller
abbrev pub IsAnsweredTo : List Response → List ℕ → ℕ → List ℕ → Type 0
IsAnsweredTo [] key exp caller = ⊥
IsAnsweredTo (r ∷ given) key exp caller = ((accepts (is_token key exp) r.verdict ≡ true) × (r.caller ≡ Some caller)) ⊎ IsAnsweredTo given key exp caller

-- If tokens are bound to callers, none is answered 200 to two callers, unless both have one owner.
abbrev pub RunsAnswerOneCaller : (V : Type 0) → Type 0
RunsAnswerOneCaller V = (t : Terms) (told : List ℕ → ℕ) (calls : List (Call V)) (b : Now) (key : List ℕ) (exp : ℕ) (x y : List ℕ)
    → t.strict ≡ false → HasMargin t → (owner_of_caller x exp ≡ owner_of_caller y exp → x ≡ y) → Run V t told calls b
    → IsAnsweredTo b.given key exp x → IsAnsweredTo b.given key exp y → x ≡ y

-- a 200 rests on the claim of a caller
abbrev pub HasCaller : Response → Type 0
HasCaller r = (u : Use) → r.verdict ≡ Accept u → (caller : List ℕ) × (r.caller ≡ Some caller)

-- Each 200 does: it follows a `Find`, the only call that names a caller.
abbrev pub RunsAnswerCallers : (V : Type 0) → Type 0
RunsAnswerCallers V = (t : Terms) (told : List ℕ → ℕ) (calls : List (Call V)) (b : Now) → Run V t told calls b → AllByRecursion HasCaller b.given
