-- What an event does to the request that it is about.
use Rattle.std.specs.Prelude.{ℕ, Bool, nat_le, if◌then◌else◌}
use Rattle.svid_replay.specs.declared.token_use.Use.{Use}
use Rattle.svid_requests.specs.declared.needs.Needs.{Needs}
use Rattle.svid_requests.specs.declared.needs.Needs.TheVariants.{Nothing, Write, Claim}
use Rattle.svid_requests.specs.declared.judgment.Judgment.{Judgment}
use Rattle.svid_requests.specs.declared.judgment.Judgment.TheVariants.{Passes, Holds, Fails}
use Rattle.svid_requests.specs.declared.verdict.Verdict.TheVariants.{Accept, Refuse, Late, NotKept, Left}
use Rattle.svid_requests.specs.declared.request.Request.{Request}
use Rattle.svid_requests.specs.declared.event.Event.{Event}
use Rattle.svid_requests.specs.declared.event.Event.TheVariants.{Judged, Wrote, Send, Found, Leave, Overdue}
use Rattle.svid_requests.specs.declared.stage.Stage.{Stage}
use Rattle.svid_requests.specs.declared.stage.Stage.TheVariants.{Judging, Writing, Claiming, Behind, Again}
use Rattle.svid_requests.specs.declared.plan.Plan.{Plan}
use Rattle.svid_requests.specs.declared.plan.Plan.TheVariants.{Stay, Go, Part}

-- a plan, where the time of the request is not over
abbrev pub in_time : ℕ → Request → Plan → Plan
in_time now r plan = if nat_le r.deadline now then Part Late else plan

-- what becomes of a request whose token is accepted, by whether another one holds the claim of its key
abbrev pub passed : Needs → Bool → Use → Plan
passed Nothing held u = Part (Accept u)
passed Write held u = Go (Writing u)
passed Claim held u = if held then Go (Behind u) else Go (Claiming u)

abbrev pub judged : Needs → Bool → Judgment → Plan
judged needs held (Passes u) = passed needs held u
judged needs held (Holds u) = Part (Accept u)
judged needs held (Fails why) = Part (Refuse why)

-- what becomes of one whose turn has come: it claims what it waited for
abbrev pub judged_again : Use → Judgment → Plan
judged_again own (Passes u) = Go (Claiming own)
judged_again own (Holds u) = Part (Accept u)
judged_again own (Fails why) = Part (Refuse why)

abbrev pub after_judgment : Needs → Bool → ℕ → Judgment → Request → Stage → Plan
after_judgment needs held now j r Judging = in_time now r (judged needs held j)
after_judgment needs held now j r (Again u) = in_time now r (judged_again u j)
after_judgment needs held now j r _ = Stay

-- what becomes of one whose use was written, or not
abbrev pub written : Bool → Use → Plan
written ok u = if ok then Part (Accept u) else Part NotKept

abbrev pub after_write : ℕ → Bool → Request → Stage → Plan
after_write now ok r (Writing u) = in_time now r (written ok u)
after_write now ok r _ = Stay

-- of one whose claim is about to go out
abbrev pub after_send : ℕ → Request → Stage → Plan
after_send now r (Claiming u) = in_time now r (Go (Claiming u))
after_send now r _ = Stay

-- of one whose claim was answered
abbrev pub found : Judgment → Plan
found (Passes u) = Part (Accept u)
found (Holds u) = Part (Accept u)
found (Fails why) = Part (Refuse why)

abbrev pub after_answer : ℕ → Judgment → Request → Stage → Plan
after_answer now j r (Claiming u) = in_time now r (found j)
after_answer now j r _ = Stay

-- of one whom nobody waits for: what is on its way to the disk goes there
abbrev pub after_leave : Stage → Plan
after_leave (Writing u) = Stay
after_leave _ = Part Left

-- what an event does to a request, by whether another one holds the claim of the key that was judged
abbrev pub plan : Needs → Bool → ℕ → Event → Request → Plan
plan needs held now (Judged n j) r = after_judgment needs held now j r r.stage
plan needs held now (Wrote n ok) r = after_write now ok r r.stage
plan needs held now (Send n) r = after_send now r r.stage
plan needs held now (Found n j) r = after_answer now j r r.stage
plan needs held now (Leave n) r = after_leave r.stage
plan needs held now Overdue r = in_time now r Stay
