-- What a deed answers, and what that leaves.
use Rattle.std.proofs.Common.{◌≡◌, ℕ, Bool, true, false, List, refl, sym, subst, Option, Some, None}
use Rattle.std.specs.List.{AllByRecursion}
use Rattle.svid_replay.specs.declared.token_use.Use.{Use}
use Rattle.svid_requests.specs.declared.needs.Needs.{Needs}
use Rattle.svid_requests.specs.declared.needs.Needs.TheVariants.{Claim}
use Rattle.svid_requests.specs.declared.judgment.Judgment.{Judgment}
use Rattle.svid_requests.specs.declared.judgment.Judgment.TheVariants.{Passes, Holds, Fails}
use Rattle.svid_requests.specs.declared.verdict.Verdict.{Verdict}
use Rattle.svid_requests.specs.declared.verdict.Verdict.TheVariants.{Accept}
use Rattle.svid_requests.specs.declared.request.Request.{Request}
use Rattle.svid_requests.specs.declared.event.Event.{Event}
use Rattle.svid_requests.specs.declared.event.Event.TheVariants.{Judged, Wrote, Send, Found, Leave, Overdue}
use Rattle.svid_requests.specs.declared.stage.Stage.{Stage}
use Rattle.svid_requests.specs.declared.stage.Stage.TheVariants.{Judging, Writing, Claiming, Behind, Again}
use Rattle.svid_requests.specs.declared.plan.Plan.{Plan}
use Rattle.svid_requests.specs.declared.plan.Plan.TheVariants.{Stay, Go, Part}
use Rattle.svid_requests.specs.declared.deed.Deed.{Deed}
use Rattle.svid_requests.specs.declared.deed.Deed.TheVariants as deed
use Rattle.svid_requests.specs.Plans.{after_answer, after_judgment, after_leave, after_send, after_write, found, judged, judged_again, passed, plan}
use Rattle.svid_requests.specs.Tables.{State, Table, deed_by, deed_of, held_by, heard_deed, subject}
use Rattle.svid_requests.specs.Tables as tables
use Rattle.svid_answers.specs.Group.{Given, given_by, granted}
use Rattle.svid_answers.proofs.FitsLemmas.{AreFit, Fits, fit_subject, granted_holds, in_time_holds}

-- what holds of the verdict of a plan, and of a deed
abbrev pub OnPart : (Verdict → Type 0) → Plan → Type 0
OnPart Q (Part v) = Q v
OnPart Q _ = Unit {0}

abbrev pub OnDeed : (Verdict → Type 0) → Deed → Type 0
OnDeed Q (deed.Answer n v next) = Q v
OnDeed Q _ = Unit {0}

deed_at_on : (Q : Verdict → Type 0) (n : ℕ) (g : Stage) → OnDeed Q (tables.deed_at n g)
deed_at_on Q n Judging = tt
deed_at_on Q n (Writing u) = tt
deed_at_on Q n (Claiming u) = tt
deed_at_on Q n (Behind u) = tt
deed_at_on Q n (Again u) = tt

pub deed_on : (Q : Verdict → Type 0) (n : ℕ) (r : Request) (pl : Plan) (t : Table) → OnPart Q pl → OnDeed Q (deed_of n r pl t)
deed_on Q n r Stay t h = tt
deed_on Q n r (Go g) t h = deed_at_on Q n g
deed_on Q n r (Part v) t h = h

pub weaker_on : (Q R : Verdict → Type 0) (d : Deed) → ((v : Verdict) → Q v → R v) → OnDeed Q d → OnDeed R d
weaker_on Q R deed.Nothing f h = tt
weaker_on Q R (deed.Judge n) f h = tt
weaker_on Q R (deed.Append n u) f h = tt
weaker_on Q R (deed.Claim n u) f h = tt
weaker_on Q R (deed.Answer n v next) f h = f v h

-- what holds of everything that was given, and of the answer given now
pub all_given_by : (Q : Given → Type 0) (v : ℕ) (owner : Option (List ℕ)) (d : Deed) (given : List Given)
    → ((n : ℕ) → OnDeed (λ verdict. Q (record { member = v; number = n; verdict = verdict; owner = owner })) d) → AllByRecursion Q given → AllByRecursion Q (given_by v owner d given)
all_given_by Q v owner deed.Nothing given h all = all
all_given_by Q v owner (deed.Judge n) given h all = all
all_given_by Q v owner (deed.Append n u) given h all = all
all_given_by Q v owner (deed.Claim n u) given h all = all
all_given_by Q v owner (deed.Answer n verdict next) given h all = (h n, all)

-- an event grants what an answer accepts
abbrev pub Grants : Event → Verdict → Type 0
Grants e (Accept u) = granted e ≡ Some u
Grants e _ = Unit {0}

abbrev OnGrant : Event → Plan → Type 0
OnGrant e pl = OnPart (Grants e) pl

passed_grants : (e : Event) (held : Bool) (u : Use) → OnGrant e (passed Claim held u)
passed_grants e true u = tt
passed_grants e false u = tt

judged_grants : (n : ℕ) (held : Bool) (j : Judgment) → OnGrant (Judged n j) (judged Claim held j)
judged_grants n held (Passes u) = passed_grants (Judged n (Passes u)) held u
judged_grants n held (Holds u) = refl
judged_grants n held (Fails why) = tt

again_grants : (n : ℕ) (own : Use) (j : Judgment) → OnGrant (Judged n j) (judged_again own j)
again_grants n own (Passes u) = tt
again_grants n own (Holds u) = refl
again_grants n own (Fails why) = tt

judgment_grants : (n : ℕ) (held : Bool) (now : ℕ) (j : Judgment) (r : Request) (g : Stage) → OnGrant (Judged n j) (after_judgment Claim held now j r g)
judgment_grants n held now j r Judging = in_time_holds (OnGrant (Judged n j)) now r (judged Claim held j) tt (judged_grants n held j)
judgment_grants n held now j r (Writing u) = tt
judgment_grants n held now j r (Claiming u) = tt
judgment_grants n held now j r (Behind u) = tt
judgment_grants n held now j r (Again u) = in_time_holds (OnGrant (Judged n j)) now r (judged_again u j) tt (again_grants n u j)

write_grants : (e : Event) (now : ℕ) (ok : Bool) (r : Request) (g : Stage) → Fits Claim g → OnGrant e (after_write now ok r g)
write_grants e now ok r Judging h = tt
write_grants e now ok r (Writing u) h = absurd h
write_grants e now ok r (Claiming u) h = tt
write_grants e now ok r (Behind u) h = tt
write_grants e now ok r (Again u) h = tt

send_grants : (e : Event) (now : ℕ) (r : Request) (g : Stage) → OnGrant e (after_send now r g)
send_grants e now r Judging = tt
send_grants e now r (Writing u) = tt
send_grants e now r (Claiming u) = in_time_holds (OnGrant e) now r (Go (Claiming u)) tt tt
send_grants e now r (Behind u) = tt
send_grants e now r (Again u) = tt

found_grants : (n : ℕ) (j : Judgment) → OnGrant (Found n j) (found j)
found_grants n (Passes u) = refl
found_grants n (Holds u) = refl
found_grants n (Fails why) = tt

answer_grants : (n now : ℕ) (j : Judgment) (r : Request) (g : Stage) → OnGrant (Found n j) (after_answer now j r g)
answer_grants n now j r Judging = tt
answer_grants n now j r (Writing u) = tt
answer_grants n now j r (Claiming u) = in_time_holds (OnGrant (Found n j)) now r (found j) tt (found_grants n j)
answer_grants n now j r (Behind u) = tt
answer_grants n now j r (Again u) = tt

leave_grants : (e : Event) (g : Stage) → OnGrant e (after_leave g)
leave_grants e Judging = tt
leave_grants e (Writing u) = tt
leave_grants e (Claiming u) = tt
leave_grants e (Behind u) = tt
leave_grants e (Again u) = tt

plan_grants : (held : Bool) (now : ℕ) (e : Event) (r : Request) → Fits Claim r.stage → OnGrant e (plan Claim held now e r)
plan_grants held now (Judged n j) r h = judgment_grants n held now j r r.stage
plan_grants held now (Wrote n ok) r h = write_grants (Wrote n ok) now ok r r.stage h
plan_grants held now (Send n) r h = send_grants (Send n) now r r.stage
plan_grants held now (Found n j) r h = answer_grants n now j r r.stage
plan_grants held now (Leave n) r h = leave_grants (Leave n) r.stage
plan_grants held now Overdue r h = in_time_holds (OnGrant Overdue) now r Stay tt tt

-- Where an acceptance needs a claim, each 200 is granted by the event that it answers.
pub heard_grants : (refused : Bool) (s : State) (e : Event) → AreFit Claim s → OnDeed (Grants e) (heard_deed refused s e)
heard_grants refused s e h = by (subject e s.table.requests) refl
  where
    by : (o : Option (ℕ × Request)) → subject e s.table.requests ≡ o → OnDeed (Grants e) (deed_by s.needs refused s.now e s.table o)
    by None is = tt
    by (Some p) is =
        let pl = plan s.needs (held_by e s.table) s.now e p.1 in
        let says = subst (λ (x : Needs). OnGrant e (plan x (held_by e s.table) s.now e p.1)) (sym h.needs_is) (plan_grants (held_by e s.table) s.now e p.1 (fit_subject Claim s e p is h)) in
        deed_on (Grants e) p.0 p.1 (tables.granted refused p.1 pl) s.table (granted_holds (OnGrant e) refused p.1 pl says tt)
