-- The calls of a member in mode once, one after the other.
use Rattle.std.specs.Prelude.{◌≡◌, ◌⊎◌, ℕ, ◌≤◌, Bool, true, false, List, [], ◌∷◌, Some, None, Result}
use Rattle.svid_token.specs.Rows.{Answers}
use Rattle.svid_token.specs.declared.refusal.Refusal.{Refusal}
use Rattle.svid_replay.specs.declared.token_use.Use.{Use}
use Rattle.svid_replay.specs.Buckets.{raised_to}
use Rattle.svid_replay.specs.Records as records
use Rattle.svid_check.specs.Said.{Said}
use Rattle.svid_check.specs.Setting.{Setting}
use Rattle.svid_check.specs.Verdict.{verdict_on}
use Rattle.svid_check.specs.declared.accepted.Accepted.{Accepted}
use Rattle.svid_requests.specs.declared.verdict.Verdict.{Verdict}
use Rattle.svid_requests.specs.declared.event.Event as requests
use Rattle.svid_requests.specs.declared.deed.Deed.{Deed}
use Rattle.svid_requests.specs.Tables.{at_moment, begun}
use Rattle.svid_member.specs.declared.asked.Asked.{Asked}
use Rattle.svid_member.specs.declared.mode.Mode.TheVariants.{Once}
use Rattle.svid_member.specs.declared.readiness.Readiness.{Readiness}
use Rattle.svid_member.specs.Judging.{IsTold, judged_by}
use Rattle.svid_member.specs.Members.{Hears, MemberData, with_readiness, with_requests}
use Rattle.svid_member.specs.Modes.{adds_at_judgment, needs_of}
use Rattle.svid_answers.specs.Alone.{WasGiven, answered, approved, given_by}
use Rattle.svid_answers.specs.Group.{comes}
use Rattle.svid_answers.specs.Records.{Knows, member_of}

-- its record, the member, and all answers of all of its lives, the last one first
pub record Now : Type 0 where
  pub held : records.State
  pub member : MemberData
  pub given : List Verdict

-- The calls.
-- - `Judge`: the validator judges the token of request n at the time `now`, by this setting.
-- - `Hear`: the member hears of anything else, for example a refusal.
-- - `Come`: a request arrives.
-- - `Join`: the record is joined with another, as by each call that takes a moment, a message or a withdrawal.
-- - `Know`: the member gets the facts that it is to know.
-- - `Begin`: it ends, and starts with the record that it reads, with a state folder or without.
pub data Call : Type 0 where
  Judge : (now up n : ℕ) (s : Setting) (said : Said) → Call
  Hear : (up : ℕ) (e : requests.Event) → Call
  Come : (up : ℕ) (refused : Bool) → Call
  Join : (b : records.State) → Call
  Know : (knows : Readiness) → Call
  Begin : (read : records.State) (kept : Bool) (wait ahead lasts : ℕ) (life : List ℕ) (knows : Readiness) → Call

-- What a call does, by its contract. A call that finds nothing to do does nothing. Only `Judge` says that the validator accepted a token. A start
-- reads a record that knows each use with which a request was answered 200.
abbrev pub Does : Call → Now → Now → Type 0
Does (Judge now up n s said) a b =
    (b ≡ a) ⊎ ((answer : Result Accepted Refusal) × (asked : Asked) × Answers Some answer (verdict_on s (raised_to a.held now).moment (raised_to a.held now).uses said)
    × IsTold up n answer a.member asked b.member × (b.held ≡ judged_by (adds_at_judgment a.member.mode) (raised_to a.held now) answer) × (b.given ≡ given_by asked.deed a.given))
Does (Hear up e) a b = (deed : Deed) × (approved e ≡ None) × Hears up e a.member deed b.member × (b.held ≡ a.held) × (b.given ≡ given_by deed a.given)
Does (Come up refused) a b = (b ≡ a) ⊎ (b ≡ record { held = a.held; member = with_requests a.member (comes refused (at_moment a.member.requests up)); given = a.given })
Does (Join other) a b = b ≡ record { held = records.join a.held other; member = a.member; given = a.given }
Does (Know knows) a b = b ≡ record { held = a.held; member = with_readiness a.member knows; given = a.given }
Does (Begin read kept wait ahead lasts life knows) a b =
    ((u : Use) → WasGiven a.given u → Knows read u) × (b ≡ record { held = read; member = member_of Once life ahead lasts knows (begun (needs_of Once kept) wait); given = a.given })

-- before its first life: no record, no requests, no answers
abbrev pub nothing : Now
nothing = record {
  held = records.state_of 0 [];
  member = member_of Once [] 0 0 (record { bundled = false; loaded = false; opened = false; heard = false; joined = false; caught_up = false; draining = false; jumped = false; unkept = false; full = false; away = false; deaf = false; ended = false }) (begun (needs_of Once true) 0);
  given = [];
}

-- all calls so far, the last one first, left this
abbrev pub Run : List Call → Now → Type 0
Run [] b = b ≡ nothing
Run (c ∷ calls) b = (a : Now) × Run calls a × Does c a b

-- Whatever the calls, no token was answered 200 twice.
abbrev pub RunsAnswerOnce : Type 0
RunsAnswerOnce = (calls : List Call) (b : Now) (key : List ℕ) (exp : ℕ) → Run calls b → answered key exp b.given ≤ 1
