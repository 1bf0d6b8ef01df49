-- What is answered 200 was written.
use Rattle.std.proofs.Common.{◌≡◌, ℕ, Bool, true, false, List, refl, sym, ap, ◌∙◌, subst, Option, Some, None}
use Rattle.std.proofs.lemmas.Bool.{false≢true}
use Rattle.std.proofs.lemmas.Option.{none-some}
use Rattle.svid_replay.specs.declared.token_use.Use.{Use}
use Rattle.svid_requests.specs.declared.needs.Needs.{Needs}
use Rattle.svid_requests.specs.declared.needs.Needs.TheVariants.{Write}
use Rattle.svid_requests.specs.declared.judgment.Judgment.{Judgment}
use Rattle.svid_requests.specs.declared.judgment.Judgment.TheVariants.{Passes, Holds, Fails}
use Rattle.svid_requests.specs.declared.verdict.Verdict.{Verdict}
use Rattle.svid_requests.specs.declared.verdict.Verdict.TheVariants.{Accept}
use Rattle.svid_requests.specs.declared.request.Request.{Request}
use Rattle.svid_requests.specs.declared.event.Event.{Event}
use Rattle.svid_requests.specs.declared.event.Event.TheVariants.{Judged, Wrote, Send, Found, Leave, Overdue}
use Rattle.svid_requests.specs.declared.stage.Stage.{Stage}
use Rattle.svid_requests.specs.declared.stage.Stage.TheVariants.{Judging, Writing, Claiming, Behind, Again}
use Rattle.svid_requests.specs.declared.plan.Plan.{Plan}
use Rattle.svid_requests.specs.declared.plan.Plan.TheVariants.{Stay, Go, Part}
use Rattle.svid_requests.specs.declared.deed.Deed.TheVariants as deed
use Rattle.svid_requests.specs.Plans.{after_answer, after_judgment, after_leave, after_send, after_write, judged, plan, written}
use Rattle.svid_requests.specs.Tables.{State, Table, at_moment, deed_by, deed_of, find, heard_deed, held_by, subject}
use Rattle.svid_requests.specs.Tables as tables
use Rattle.svid_answers.specs.Alone.{AnsweredIsWritten, history}
use Rattle.svid_answers.specs.Group.{granted, holding}
use Rattle.svid_answers.specs.RunsKept.{IsWriting}
use Rattle.svid_answers.proofs.AloneLemmas.{once_requests}
use Rattle.svid_answers.proofs.FitsLemmas.{AllAt, AreFit, Fits, fit_subject, granted_holds, in_time_holds, numbered_find, subject_found}
use Rattle.svid_answers.proofs.GrantsLemmas.{OnPart}

-- a use that a claim is held for already
abbrev pub held_use : Event → Option Use
held_use (Judged n j) = holding j
held_use _ = None

-- a use was written
abbrev wrote : Event → Bool
wrote (Wrote n ok) = ok
wrote _ = false

-- so it is where an answer accepts it, and the request waited for that
abbrev IsWritten : Event → Stage → Verdict → Type 0
IsWritten e g (Accept u) = (wrote e ≡ true) × (g ≡ Writing u)
IsWritten e g _ = Unit {0}

abbrev OnWrite : Event → Stage → Plan → Type 0
OnWrite e g pl = OnPart (IsWritten e g) pl

judged_written : (n : ℕ) (held : Bool) (j : Judgment) → holding j ≡ None → OnWrite (Judged n j) Judging (judged Write held j)
judged_written n held (Passes u) none = tt
judged_written n held (Holds u) none = absurd (none-some u (sym none))
judged_written n held (Fails why) none = tt

judgment_written : (n : ℕ) (held : Bool) (now : ℕ) (j : Judgment) (r : Request) (g : Stage) → Fits Write g → holding j ≡ None → OnWrite (Judged n j) g (after_judgment Write held now j r g)
judgment_written n held now j r Judging h none = in_time_holds (OnWrite (Judged n j) Judging) now r (judged Write held j) tt (judged_written n held j none)
judgment_written n held now j r (Writing u) h none = tt
judgment_written n held now j r (Claiming u) h none = tt
judgment_written n held now j r (Behind u) h none = tt
judgment_written n held now j r (Again u) h none = absurd h

write_written : (n now : ℕ) (ok : Bool) (r : Request) (g : Stage) → OnWrite (Wrote n ok) g (after_write now ok r g)
write_written n now ok r Judging = tt
write_written n now ok r (Writing u) = in_time_holds (OnWrite (Wrote n ok) (Writing u)) now r (written ok u) tt (by ok)
  where
    by : (b : Bool) → OnWrite (Wrote n b) (Writing u) (written b u)
    by true = (refl, refl)
    by false = tt
write_written n now ok r (Claiming u) = tt
write_written n now ok r (Behind u) = tt
write_written n now ok r (Again u) = tt

send_written : (e : Event) (now : ℕ) (r : Request) (g : Stage) → Fits Write g → OnWrite e g (after_send now r g)
send_written e now r Judging h = tt
send_written e now r (Writing u) h = tt
send_written e now r (Claiming u) h = absurd h
send_written e now r (Behind u) h = tt
send_written e now r (Again u) h = tt

answer_written : (e : Event) (now : ℕ) (j : Judgment) (r : Request) (g : Stage) → Fits Write g → OnWrite e g (after_answer now j r g)
answer_written e now j r Judging h = tt
answer_written e now j r (Writing u) h = tt
answer_written e now j r (Claiming u) h = absurd h
answer_written e now j r (Behind u) h = tt
answer_written e now j r (Again u) h = tt

leave_written : (e : Event) (g : Stage) → OnWrite e g (after_leave g)
leave_written e Judging = tt
leave_written e (Writing u) = tt
leave_written e (Claiming u) = tt
leave_written e (Behind u) = tt
leave_written e (Again u) = tt

plan_written : (held : Bool) (now : ℕ) (e : Event) (r : Request) → Fits Write r.stage → held_use e ≡ None → OnWrite e r.stage (plan Write held now e r)
plan_written held now (Judged n j) r h none = judgment_written n held now j r r.stage h none
plan_written held now (Wrote n ok) r h none = write_written n now ok r r.stage
plan_written held now (Send n) r h none = send_written (Send n) now r r.stage h
plan_written held now (Found n j) r h none = answer_written (Found n j) now j r r.stage h
plan_written held now (Leave n) r h none = leave_written (Leave n) r.stage
plan_written held now Overdue r h none = in_time_holds (OnWrite Overdue r.stage) now r Stay tt tt

-- a deed that answers is of a plan that does
deed_answers : (m : ℕ) (r : Request) (pl : Plan) (t : Table) (n : ℕ) (v : Verdict) (next : Option ℕ) → deed_of m r pl t ≡ deed.Answer n v next → (m ≡ n) × (pl ≡ Part v)
deed_answers m r Stay t n v next is = absurd (cc)
deed_answers m r (Go Judging) t n v next is = absurd (cc)
deed_answers m r (Go (Writing u)) t n v next is = absurd (cc)
deed_answers m r (Go (Claiming u)) t n v next is = absurd (cc)
deed_answers m r (Go (Behind u)) t n v next is = absurd (cc)
deed_answers m r (Go (Again u)) t n v next is = absurd (cc)
deed_answers m r (Part w) t n v next is = (cc, cc)

-- the event is of the request that it is about
wrote_is : (e : Event) (requests : List (ℕ × Request)) (p : ℕ × Request) (n : ℕ) → subject e requests ≡ Some p → p.0 ≡ n → wrote e ≡ true → e ≡ Wrote n true
wrote_is (Judged m j) requests p n is at ok = absurd (false≢true ok)
wrote_is (Wrote m b) requests p n is at ok = ap (λ k. Wrote k b) ((numbered_find m (find m requests) p is).0 ∙ at) ∙ ap (λ k. Wrote n k) ok
wrote_is (Send m) requests p n is at ok = absurd (false≢true ok)
wrote_is (Found m j) requests p n is at ok = absurd (false≢true ok)
wrote_is (Leave m) requests p n is at ok = absurd (false≢true ok)
wrote_is Overdue requests p n is at ok = absurd (false≢true ok)

pub answered_was_writing : (refused : Bool) (s : State) (e : Event) (n : ℕ) (u : Use) (next : Option ℕ) → AreFit Write s → held_use e ≡ None → heard_deed refused s e ≡ deed.Answer n (Accept u) next → (e ≡ Wrote n true) × IsWriting s n u
answered_was_writing refused s e n u next h none answers = by (subject e s.table.requests) refl answers
  where
    by : (o : Option (ℕ × Request)) → subject e s.table.requests ≡ o → deed_by s.needs refused s.now e s.table o ≡ deed.Answer n (Accept u) next → (e ≡ Wrote n true) × IsWriting s n u
    by None is answers = absurd (cc)
    by (Some p) is answers =
        let pl = plan s.needs (held_by e s.table) s.now e p.1 in
        let says = subst (λ (x : Needs). OnWrite e p.1.stage (plan x (held_by e s.table) s.now e p.1)) (sym h.needs_is) (plan_written (held_by e s.table) s.now e p.1 (fit_subject Write s e p is h) none) in
        let both = deed_answers p.0 p.1 (tables.granted refused p.1 pl) s.table n (Accept u) next answers in
        let wrote = subst (OnWrite e p.1.stage) both.1 (granted_holds (OnWrite e p.1.stage) refused p.1 pl says tt) in
        (wrote_is e s.table.requests p n is both.0 wrote.0, (p.1, subst (λ m. find m s.table.requests ≡ Some p.1) both.0 (subject_found e s.table.requests p is), wrote.1))

granted_held : (e : Event) → granted e ≡ None → held_use e ≡ None
granted_held (Judged n j) is = is
granted_held (Wrote n ok) is = refl
granted_held (Send n) is = refl
granted_held (Found n j) is = refl
granted_held (Leave n) is = refl
granted_held Overdue is = refl

pub answered_is_written : AnsweredIsWritten
answered_is_written events up n refused e u next needs none answers =
    let once = once_requests events in
    let s = at_moment (history events).requests up in
    (answered_was_writing refused s e n u next (record { needs_is = needs; fits = subst (λ (x : Needs). AllAt (Fits x) s.table.requests) (sym once.1.needs_is ∙ needs) once.1.fits }) (granted_held e none) answers).0
