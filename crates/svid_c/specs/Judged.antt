-- What judging the token of a request does, and what the answer to its claim does.
use Rattle.std.specs.Prelude.{◌≡◌, ℕ, ◌<◌, ◌≤◌, true, false, List, length, Option, Some, None, Result, Ok, Err}
use Rattle.svid_id.specs.Id.{id_text}
use Rattle.svid_token.specs.Rows.{Answers}
use Rattle.svid_token.specs.declared.refusal.Refusal.{Refusal}
use Rattle.svid_replay.specs.Buckets.{raised_to}
use Rattle.svid_replay.specs.declared.token_use.Use.{Use}
use Rattle.svid_claims.specs.declared.claim.Found.{Found}
use Rattle.svid_claims.specs.declared.outcome.Outcome.{Outcome}
use Rattle.svid_claims.specs.declared.outcome.Outcome.TheVariants.{Withdrawn, Taken, Far, Deaf, Expired, Mine}
use Rattle.svid_log.specs.Members.{MemberState}
use Rattle.svid_check.specs.Said.{Said}
use Rattle.svid_check.specs.Setting.{Says, Setting, setting_by, with_state}
use Rattle.svid_check.specs.Verdict.{verdict_on}
use Rattle.svid_check.specs.declared.accepted.Accepted.{Accepted}
use Rattle.svid_requests.specs.Tables.{at_moment, awaits}
use Rattle.svid_requests.specs.declared.deed.Deed.{Deed}
use Rattle.svid_requests.specs.declared.deed.Deed.TheVariants.{Nothing}
use Rattle.svid_requests.specs.declared.event.Event.{Event}
use Rattle.svid_requests.specs.declared.event.Event.TheVariants as event
use Rattle.svid_requests.specs.declared.judgment.Judgment.TheVariants.{Fails}
use Rattle.svid_member.specs.Claiming.{Finds, awaited}
use Rattle.svid_member.specs.Judging.{IsTold, judged_by}
use Rattle.svid_member.specs.Members.{Hears, MemberData}
use Rattle.svid_member.specs.Modes.{adds_at_judgment}
use Rattle.svid_member.specs.Reasons.{reason_of}
use Rattle.svid_member.specs.declared.asked.Asked.{Asked}
use Rattle.svid_member.specs.declared.claimed.Claimed.{Claimed}
use Rattle.svid_c.specs.Checked.{refusal_number, use_seen}
use Rattle.svid_c.specs.Deeds.{deed_seen}
use Rattle.svid_c.specs.Live.{Kept}
use Rattle.svid_c.specs.Peers.{MayCall, with_member_data}
use Rattle.svid_c.specs.Status.{told_length}
use Rattle.svid_c.specs.Written.{HasFirst}
use Rattle.svid_c.specs.declared.check.SvidUse.{SvidUse}
use Rattle.svid_c.specs.declared.deed.SvidDeed.{SvidDeed}
use Rattle.svid_c.specs.declared.live.Live.{Live}
use Rattle.svid_c.specs.declared.member_found.SvidFound.{SvidFound}
use Rattle.svid_c.specs.declared.peer.Peer.{Peer}
use Rattle.svid_c.specs.declared.told.SvidTold.{SvidTold}

-- where a call writes what it answers
pub record Room : Type 0 where
  pub out : List ℕ
  pub used : SvidUse
  pub deed : SvidDeed

-- how the call answers a validator's answer
abbrev pub TellsResult : Result Accepted Refusal → ℕ → SvidTold → List ℕ → List ℕ → SvidUse → SvidUse → Type 0
TellsResult (Ok a) status told old_out new_out old_use new_use =
    (status ≡ 0) × (told ≡ told_length (length (id_text a.id))) × HasFirst (id_text a.id) old_out new_out × (new_use ≡ use_seen a.used)
TellsResult (Err why) status told old_out new_out old_use new_use = (status ≡ refusal_number why) × (told ≡ told_length 0) × (new_out ≡ old_out) × (new_use ≡ old_use)

-- a number, and nothing else, is the answer
abbrev pub TellsOnly : ℕ → ℕ → SvidTold → List ℕ → List ℕ → SvidUse → SvidUse → Type 0
TellsOnly number status told old_out new_out old_use new_use = (status ≡ number) × (told ≡ told_length 0) × (new_out ≡ old_out) × (new_use ≡ old_use)

-- how the call answers a validator's answer, if the validator was asked
abbrev pub TellsAnswer : Option (Result Accepted Refusal) → ℕ → SvidTold → List ℕ → List ℕ → SvidUse → SvidUse → Type 0
TellsAnswer None = TellsOnly 29
TellsAnswer (Some answer) = TellsResult answer

-- How the call answers the outcome of a claim, if the request waited for it: for a claim that counts, by the validator's answer.
abbrev pub TellsOutcome : Outcome → Option (Result Accepted Refusal) → ℕ → SvidTold → List ℕ → List ℕ → SvidUse → SvidUse → Type 0
TellsOutcome Mine answer = TellsAnswer answer
TellsOutcome Withdrawn answer = TellsOnly 56
TellsOutcome Taken answer = TellsOnly 57
TellsOutcome Far answer = TellsOnly 58
TellsOutcome Deaf answer = TellsOnly 59
TellsOutcome Expired answer = TellsOnly 60

abbrev pub TellsClaim : Option Outcome → Option (Result Accepted Refusal) → ℕ → SvidTold → List ℕ → List ℕ → SvidUse → SvidUse → Type 0
TellsClaim None answer = TellsOnly 29
TellsClaim (Some outcome) answer = TellsOutcome outcome answer

-- why a token of a caller that may not call is refused: its own fault comes first
abbrev pub number_if_not_allowed : Result Accepted Refusal → ℕ
number_if_not_allowed (Ok a) = 91
number_if_not_allowed (Err why) = reason_of why

-- what a store answered, as C gives it
abbrev pub found_in : SvidFound → Found
found_in f = record { owner = record { bytes = f.owner }; time = f.time; deaf = f.deaf }

-- a validator and a member judge the token of a request: where the request does not wait for that, nothing happens
abbrev pub Judges : Setting → (now up n : ℕ) → Said → Kept → Kept → MemberData → MemberData → Asked → Type 0
Judges s now up n said v w m after asked =
    (awaits (at_moment m.requests up) n ≡ false → (w ≡ v) × (after ≡ m) × (asked.deed ≡ Nothing) × (asked.answer ≡ None))
    × (awaits (at_moment m.requests up) n ≡ true → let x = raised_to v.state now in
    (answer : Result Accepted Refusal) × Answers Some answer (verdict_on s x.moment x.uses said)
    × (w ≡ with_state v (judged_by (adds_at_judgment m.mode) x answer)) × IsTold up n answer m asked after)

-- a validator and a member look at what a store answered to the claim of a request: where the request does not wait for that, nothing happens
abbrev pub Looks : Setting → (now up n : ℕ) → (caller : List ℕ) → Found → Said → Kept → Kept → MemberData → MemberData → Claimed → Type 0
Looks s now up n caller found said v w m after claimed =
    (awaited m up n said ≡ None → (w ≡ v) × (after ≡ m) × (claimed.deed ≡ Nothing) × (claimed.outcome ≡ None) × (claimed.answer ≡ None))
    × ((u : Use) → awaited m up n said ≡ Some u → Finds s now up n u caller found said v w m after claimed)

-- what a handle holds after a call on its validator and its member
abbrev pub after_both : Live → Kept → Peer → Live
after_both live v p = record { validator = v; step = live.step; member = live.member; peer = Some p }

-- A call that judges a token for a request: there is too little room for an ID, or the validator reads a log, or has no member, and nothing happens.
pub data NotJudged (status : ℕ) (told : SvidTold) (old_room new_room : Room) (old new : Live) : Type 0 where
  judge_no_room : length old_room.out < 2048 → status ≡ 1 → told ≡ told_length 2048 → new_room ≡ old_room → new ≡ old → NotJudged status told old_room new_room old new
  judge_by_log : (l : MemberState) → 2048 ≤ length old_room.out → old.member ≡ Some l → status ≡ 10 → told ≡ told_length 0 → new_room ≡ old_room → new ≡ old → NotJudged status told old_room new_room old new
  judge_for_none : 2048 ≤ length old_room.out → old.member ≡ None → old.peer ≡ None → status ≡ 20 → told ≡ told_length 0 → new_room ≡ old_room → new ≡ old → NotJudged status told old_room new_room old new

-- The token of a caller that may not call is judged, and adds nothing; its request is refused by this event.
pub record RefusesCaller (refused : ℕ → Event) (says : Says) (now up : ℕ) (said : Said) (status : ℕ) (told : SvidTold) (old_room new_room : Room) (p q : Peer) (v w : Kept) : Type 0 where
  pub answer : Result Accepted Refusal
  pub deed : Deed
  pub m : MemberData
  pub judged : let x = raised_to v.state now in Answers Some answer (verdict_on (setting_by says v) x.moment x.uses said)
  pub hears : Hears up (refused (number_if_not_allowed answer)) p.member deed m
  pub status_is : status ≡ number_if_not_allowed answer
  pub told_is : told ≡ told_length 0
  pub room_is : new_room ≡ record { out = old_room.out; used = old_room.used; deed = deed_seen deed }
  pub record_is : w ≡ with_state v (raised_to v.state now)
  pub leaves : q ≡ with_member_data p m

-- A request whose caller may not call does not wait for that: nothing is asked, and nothing happens.
pub record AsksNobody (status : ℕ) (told : SvidTold) (old_room new_room : Room) (p q : Peer) (v w : Kept) : Type 0 where
  pub status_is : status ≡ 29
  pub told_is : told ≡ told_length 0
  pub room_is : new_room ≡ record { out = old_room.out; used = old_room.used; deed = deed_seen Nothing }
  pub record_is : w ≡ v
  pub leaves : q ≡ p

-- The token of a request is judged by a validator, and the member hears of it; or its caller may not call.
pub data PeerJudges (says : Says) (now up n : ℕ) (said : Said) (status : ℕ) (told : SvidTold) (old_room new_room : Room) (p q : Peer) (v w : Kept) : Type 0 where
  judges_request : (asked : Asked) (m : MemberData) → MayCall p.callers said.sub → Judges (setting_by says v) now up n said v w p.member m asked
      → TellsAnswer asked.answer status told old_room.out new_room.out old_room.used new_room.used → new_room.deed ≡ deed_seen asked.deed → q ≡ with_member_data p m
      → PeerJudges says now up n said status told old_room new_room p q v w
  judges_nobody : ¬ MayCall p.callers said.sub → awaits (at_moment p.member.requests up) n ≡ false → AsksNobody status told old_room new_room p q v w
      → PeerJudges says now up n said status told old_room new_room p q v w
  refuses_request : ¬ MayCall p.callers said.sub → awaits (at_moment p.member.requests up) n ≡ true → RefusesCaller (λ why. event.Judged n (Fails why)) says now up said status told old_room new_room p q v w
      → PeerJudges says now up n said status told old_room new_room p q v w

-- The claim of a request was answered, and the member hears of it; or its caller may not call.
pub data PeerFinds (says : Says) (now up n : ℕ) (caller : List ℕ) (found : SvidFound) (said : Said) (status : ℕ) (told : SvidTold) (old_room new_room : Room) (p q : Peer) (v w : Kept) : Type 0 where
  finds_request : (claimed : Claimed) (m : MemberData) → MayCall p.callers said.sub → Looks (setting_by says v) now up n caller (found_in found) said v w p.member m claimed
      → TellsClaim claimed.outcome claimed.answer status told old_room.out new_room.out old_room.used new_room.used → new_room.deed ≡ deed_seen claimed.deed → q ≡ with_member_data p m
      → PeerFinds says now up n caller found said status told old_room new_room p q v w
  finds_nobody : ¬ MayCall p.callers said.sub → awaited p.member up n said ≡ None → AsksNobody status told old_room new_room p q v w
      → PeerFinds says now up n caller found said status told old_room new_room p q v w
  refuses_claim : (u : Use) → ¬ MayCall p.callers said.sub → awaited p.member up n said ≡ Some u → RefusesCaller (λ why. event.Found n (Fails why)) says now up said status told old_room new_room p q v w
      → PeerFinds says now up n caller found said status told old_room new_room p q v w

-- A call that judges a token for a request by what a handle holds: it is not judged, and nothing happens; or this is done by the member and the validator.
pub data ForRequest (Does : Peer → Peer → Kept → Kept → Type 0) (status : ℕ) (told : SvidTold) (old_room new_room : Room) (old new : Live) : Type 0 where
  not_judged : NotJudged status told old_room new_room old new → ForRequest Does status told old_room new_room old new
  for_request : (p q : Peer) (w : Kept) → 2048 ≤ length old_room.out → old.member ≡ None → old.peer ≡ Some p → new ≡ after_both old w q → Does p q old.validator w → ForRequest Does status told old_room new_room old new

abbrev pub JudgesRequest : Says → (now up n : ℕ) → Said → ℕ → SvidTold → Room → Room → Live → Live → Type 0
JudgesRequest says now up n said status told old_room new_room = ForRequest (PeerJudges says now up n said status told old_room new_room) status told old_room new_room

abbrev pub FindsRequest : Says → (now up n : ℕ) → (caller : List ℕ) → SvidFound → Said → ℕ → SvidTold → Room → Room → Live → Live → Type 0
FindsRequest says now up n caller found said status told old_room new_room = ForRequest (PeerFinds says now up n caller found said status told old_room new_room) status told old_room new_room
