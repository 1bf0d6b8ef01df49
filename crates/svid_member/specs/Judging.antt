-- What the requests hear of a validator's answer.
use Rattle.std.specs.Prelude.{◌≡◌, ℕ, Bool, Some, Result, Ok, Err, if◌then◌else◌}
use Rattle.svid_token.specs.declared.refusal.Refusal.{Refusal}
use Rattle.svid_replay.specs.Records.{State}
use Rattle.svid_check.specs.Changes.{settled}
use Rattle.svid_check.specs.declared.accepted.Accepted.{Accepted}
use Rattle.svid_requests.specs.declared.judgment.Judgment.{Judgment}
use Rattle.svid_requests.specs.declared.judgment.Judgment.TheVariants.{Passes, Fails}
use Rattle.svid_requests.specs.declared.event.Event.TheVariants.{Judged}
use Rattle.svid_member.specs.declared.asked.Asked.{Asked}
use Rattle.svid_member.specs.Members.{Hears, MemberData}
use Rattle.svid_member.specs.Reasons.{reason_of}

-- a validator's answer, as the requests hear of it
abbrev pub judgment_of : Result Accepted Refusal → Judgment
judgment_of (Ok accepted) = Passes accepted.used
judgment_of (Err refusal) = Fails (reason_of refusal)

-- a record after a judgment that adds the use of an acceptance, or not
abbrev pub judged_by : Bool → State → Result Accepted Refusal → State
judged_by adds x answer = if adds then settled x answer else x

-- the requests heard of the answer, and this is to be done
abbrev pub IsTold : ℕ → ℕ → Result Accepted Refusal → MemberData → Asked → MemberData → Type 0
IsTold up n answer m asked after = Hears up (Judged n (judgment_of answer)) m asked.deed after × (asked.answer ≡ Some answer)
