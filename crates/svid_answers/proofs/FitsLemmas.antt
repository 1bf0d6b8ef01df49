-- The stages of a member's requests are those that its needs allow.
use Rattle.std.proofs.Common.{◌≡◌, ℕ, Bool, true, false, List, [], ◌∷◌, refl, sym, ap, ◌∙◌, subst, Option, Some, None, IfSome, All, ◌&&◌}
use Rattle.std.specs.Prelude.{nat_le}
use Rattle.std.specs.Ordering.{is_eq, nat_cmp}
use Rattle.std.specs.Map.{values_of}
use Rattle.std.specs.BTreeMap.{is_at}
use Rattle.std.proofs.lemmas.Bool.{cond-true, cond_both}
use Rattle.std.proofs.lemmas.Cmp.{nat_cmp_total, tied_itself}
use Rattle.std.proofs.lemmas.Option.{none-some, same_Some}
use Rattle.std.proofs.lemmas.List.Elements.{All-nil}
use Rattle.std.proofs.lemmas.Map.Views.{All-map-remove_entry, All-values-insert_entry, All-values-set_value, IfSome-lookup_from_All}
use Rattle.svid_replay.specs.declared.token_use.Use.{Use}
use Rattle.svid_requests.specs.declared.needs.Needs.{Needs}
use Rattle.svid_requests.specs.declared.needs.Needs.TheVariants.{Nothing, Write, Claim}
use Rattle.svid_requests.specs.declared.judgment.Judgment.{Judgment}
use Rattle.svid_requests.specs.declared.judgment.Judgment.TheVariants.{Passes, Holds, Fails}
use Rattle.svid_requests.specs.declared.verdict.Verdict.TheVariants.{Accept, Late, NoMemory, NotKept}
use Rattle.svid_requests.specs.declared.request.Request.{Request}
use Rattle.svid_requests.specs.declared.event.Event.{Event}
use Rattle.svid_requests.specs.declared.event.Event.TheVariants.{Judged, Wrote, Send, Found, Leave, Overdue}
use Rattle.svid_requests.specs.declared.stage.Stage.{Stage}
use Rattle.svid_requests.specs.declared.stage.Stage.TheVariants.{Judging, Writing, Claiming, Behind, Again}
use Rattle.svid_requests.specs.declared.plan.Plan.{Plan}
use Rattle.svid_requests.specs.declared.plan.Plan.TheVariants.{Stay, Go, Part}
use Rattle.svid_requests.specs.Lines.{first_of}
use Rattle.svid_requests.specs.Plans.{after_answer, after_judgment, after_leave, after_send, after_write, found, in_time, judged, judged_again, passed, plan, written}
use Rattle.svid_requests.specs.Tables.{State, Table, asks_memory, at_moment, at_stage, begun, came, deadline, entered, find, followed, granted, hand_to, has_number, heard, held_by, joined, left_at, left_by, first, numbered, restaged, subject, turn, turned, without}

-- Where memory is refused, a plan is kept or answers otherwise.
pub granted_holds : (P : Plan → Type 0) (refused : Bool) (r : Request) (pl : Plan) → P pl → P (Part NoMemory) → P (granted refused r pl)
granted_holds P refused r pl h none = cond_both (asks_memory r.stage pl && refused) (Part NoMemory) pl P (λ _. none) (λ _. h)

pub joined_same : (n : ℕ) (was g : Stage) (t : Table) → (joined n was g t).requests ≡ t.requests
joined_same n Judging Judging t = refl
joined_same n Judging (Writing u) t = refl
joined_same n Judging (Claiming u) t = refl
joined_same n Judging (Behind u) t = refl
joined_same n Judging (Again u) t = refl
joined_same n (Writing u) g t = refl
joined_same n (Claiming u) g t = refl
joined_same n (Behind u) g t = refl
joined_same n (Again u) g t = refl

-- The request that an event is about is in the table.
pub numbered_find : (n : ℕ) (o : Option Request) (p : ℕ × Request) → numbered n o ≡ Some p → (n ≡ p.0) × (o ≡ Some p.1)
numbered_find n None p is = absurd cc
numbered_find n (Some r) p is = let one = same_Some {A = ℕ × Request} (n, r) p is in (ap (λ (q : ℕ × Request). q.0) one, ap (λ (q : ℕ × Request). Some q.1) one)

found_at : (n : ℕ) (requests : List (ℕ × Request)) (p : ℕ × Request) → numbered n (find n requests) ≡ Some p → find p.0 requests ≡ Some p.1
found_at n requests p is = let both = numbered_find n (find n requests) p is in subst (λ m. find m requests ≡ Some p.1) both.0 both.1

first_found : (requests : List (ℕ × Request)) (p : ℕ × Request) → first requests ≡ Some p → find p.0 requests ≡ Some p.1
first_found [] p is = absurd (none-some p is)
first_found (e ∷ es) p is =
    cond-true (is_at (nat_cmp p.0) e.0) (Some e.1) (find p.0 es) (subst (λ (q : ℕ × Request). is_at (nat_cmp q.0) e.0 ≡ true) (same_Some e p is) (ap is_eq (tied_itself nat_cmp_total e.0)))
    ∙ ap (λ (q : ℕ × Request). Some q.1) (same_Some e p is)

pub subject_found : (e : Event) (requests : List (ℕ × Request)) (p : ℕ × Request) → subject e requests ≡ Some p → find p.0 requests ≡ Some p.1
subject_found (Judged n j) requests p is = found_at n requests p is
subject_found (Wrote n ok) requests p is = found_at n requests p is
subject_found (Send n) requests p is = found_at n requests p is
subject_found (Found n j) requests p is = found_at n requests p is
subject_found (Leave n) requests p is = found_at n requests p is
subject_found Overdue requests p is = first_found requests p is

-- What holds where a plan goes on to a stage.
abbrev pub OnGo : (Stage → Type 0) → Plan → Type 0
OnGo P Stay = Unit {0}
OnGo P (Go g) = P g
OnGo P (Part v) = Unit {0}

pub in_time_holds : (Q : Plan → Type 0) (now : ℕ) (r : Request) (pl : Plan) → Q (Part Late) → Q pl → Q (in_time now r pl)
in_time_holds Q now r pl late h = cond_both (nat_le r.deadline now) (Part Late) pl Q (λ _. late) (λ _. h)

-- What holds of each request's stage.
abbrev pub AllAt : (Stage → Type 0) → List (ℕ × Request) → Type 0
AllAt P requests = All (λ (r : Request). P r.stage) (values_of requests)

-- It goes on to hold, where it holds after a turn.
module _ (P : Stage → Type 0) (turns : (g : Stage) → P g → P (turned g)) where
  pub at_find : (n : ℕ) (requests : List (ℕ × Request)) (r : Request) → AllAt P requests → find n requests ≡ Some r → P r.stage
  at_find n requests r all is = subst (λ (o : Option Request). IfSome o (λ q. P q.stage)) is (IfSome-lookup_from_All (λ (q : Request). P q.stage) (is_at (nat_cmp n)) requests all)

  all_restaged : (n : ℕ) (r : Request) (g : Stage) (requests : List (ℕ × Request)) → AllAt P requests → P g → AllAt P (restaged n r g requests)
  all_restaged n r g requests all h = All-values-set_value (is_at (nat_cmp n)) (λ (q : Request). P q.stage) requests (at_stage g r) all h

  all_turn : (n : ℕ) (o : Option Request) (requests : List (ℕ × Request)) → find n requests ≡ o → AllAt P requests → AllAt P (turn n o requests)
  all_turn n None requests is all = all
  all_turn n (Some r) requests is all = all_restaged n r (turned r.stage) requests all (turns r.stage (at_find n requests r all is))

  all_handed : (key : List ℕ) (o : Option ℕ) (t : Table) → AllAt P t.requests → AllAt P (hand_to key o t).requests
  all_handed key None t all = all
  all_handed key (Some w) t all = all_turn w (find w t.requests) t.requests refl all

  all_left : (n : ℕ) (g : Stage) (t : Table) → AllAt P t.requests → AllAt P (left_at n g t).requests
  all_left n Judging t all = all
  all_left n (Writing u) t all = all
  all_left n (Claiming u) t all = all_handed u.key (first_of u.key t.lines) t all
  all_left n (Behind u) t all = all
  all_left n (Again u) t all = all_handed u.key (first_of u.key t.lines) t all

  pub all_followed : (n : ℕ) (r : Request) (pl : Plan) (t : Table) → AllAt P t.requests → OnGo P pl → AllAt P (followed n r pl t).requests
  all_followed n r Stay t all h = all
  all_followed n r (Go g) t all h = all_restaged n r g (joined n r.stage g t).requests (subst (AllAt P) (sym (joined_same n r.stage g t)) all) h
  all_followed n r (Part v) t all h = all_left n r.stage (without n t) (All-map-remove_entry (is_at (nat_cmp n)) (λ (e : ℕ × Request). e.1) (λ (q : Request). P q.stage) t.requests all)

-- The stages that there are where an acceptance needs this.
abbrev IsWrite : Needs → Type 0
IsWrite Write = Unit {0}
IsWrite _ = ⊥

abbrev IsClaim : Needs → Type 0
IsClaim Claim = Unit {0}
IsClaim _ = ⊥

abbrev pub Fits : Needs → Stage → Type 0
Fits needs Judging = Unit {0}
Fits needs (Writing u) = IsWrite needs
Fits needs (Claiming u) = IsClaim needs
Fits needs (Behind u) = IsClaim needs
Fits needs (Again u) = IsClaim needs

pub fits_turned : (needs : Needs) (g : Stage) → Fits needs g → Fits needs (turned g)
fits_turned needs Judging h = h
fits_turned needs (Writing u) h = h
fits_turned needs (Claiming u) h = h
fits_turned needs (Behind u) h = h
fits_turned needs (Again u) h = h

passed_fits : (needs : Needs) (held : Bool) (u : Use) → OnGo (Fits needs) (passed needs held u)
passed_fits Nothing held u = tt
passed_fits Write held u = tt
passed_fits Claim true u = tt
passed_fits Claim false u = tt

judged_fits : (needs : Needs) (held : Bool) (j : Judgment) → OnGo (Fits needs) (judged needs held j)
judged_fits needs held (Passes u) = passed_fits needs held u
judged_fits needs held (Holds u) = tt
judged_fits needs held (Fails why) = tt

again_fits : (needs : Needs) (own : Use) (j : Judgment) → IsClaim needs → OnGo (Fits needs) (judged_again own j)
again_fits needs own (Passes u) h = h
again_fits needs own (Holds u) h = tt
again_fits needs own (Fails why) h = tt

judgment_fits : (needs : Needs) (held : Bool) (now : ℕ) (j : Judgment) (r : Request) (g : Stage) → Fits needs g → OnGo (Fits needs) (after_judgment needs held now j r g)
judgment_fits needs held now j r Judging h = in_time_holds (OnGo (Fits needs)) now r (judged needs held j) tt (judged_fits needs held j)
judgment_fits needs held now j r (Writing u) h = tt
judgment_fits needs held now j r (Claiming u) h = tt
judgment_fits needs held now j r (Behind u) h = tt
judgment_fits needs held now j r (Again u) h = in_time_holds (OnGo (Fits needs)) now r (judged_again u j) tt (again_fits needs u j h)

write_fits : (P : Stage → Type 0) (now : ℕ) (ok : Bool) (r : Request) (g : Stage) → OnGo P (after_write now ok r g)
write_fits P now ok r Judging = tt
write_fits P now ok r (Writing u) = in_time_holds (OnGo P) now r (written ok u) tt (cond_both ok (Part (Accept u)) (Part NotKept) (OnGo P) (λ _. tt) (λ _. tt))
write_fits P now ok r (Claiming u) = tt
write_fits P now ok r (Behind u) = tt
write_fits P now ok r (Again u) = tt

send_fits : (P : Stage → Type 0) (now : ℕ) (r : Request) (g : Stage) → P g → OnGo P (after_send now r g)
send_fits P now r Judging h = tt
send_fits P now r (Writing u) h = tt
send_fits P now r (Claiming u) h = in_time_holds (OnGo P) now r (Go (Claiming u)) tt h
send_fits P now r (Behind u) h = tt
send_fits P now r (Again u) h = tt

found_fits : (P : Stage → Type 0) (j : Judgment) → OnGo P (found j)
found_fits P (Passes u) = tt
found_fits P (Holds u) = tt
found_fits P (Fails why) = tt

answer_fits : (P : Stage → Type 0) (now : ℕ) (j : Judgment) (r : Request) (g : Stage) → OnGo P (after_answer now j r g)
answer_fits P now j r Judging = tt
answer_fits P now j r (Writing u) = tt
answer_fits P now j r (Claiming u) = in_time_holds (OnGo P) now r (found j) tt (found_fits P j)
answer_fits P now j r (Behind u) = tt
answer_fits P now j r (Again u) = tt

leave_fits : (P : Stage → Type 0) (g : Stage) → OnGo P (after_leave g)
leave_fits P Judging = tt
leave_fits P (Writing u) = tt
leave_fits P (Claiming u) = tt
leave_fits P (Behind u) = tt
leave_fits P (Again u) = tt

plan_fits : (needs : Needs) (held : Bool) (now : ℕ) (e : Event) (r : Request) → Fits needs r.stage → OnGo (Fits needs) (plan needs held now e r)
plan_fits needs held now (Judged n j) r h = judgment_fits needs held now j r r.stage h
plan_fits needs held now (Wrote n ok) r h = write_fits (Fits needs) now ok r r.stage
plan_fits needs held now (Send n) r h = send_fits (Fits needs) now r r.stage h
plan_fits needs held now (Found n j) r h = answer_fits (Fits needs) now j r r.stage
plan_fits needs held now (Leave n) r h = leave_fits (Fits needs) r.stage
plan_fits needs held now Overdue r h = in_time_holds (OnGo (Fits needs)) now r Stay tt tt

-- All requests of a member fit its needs.
pub record AreFit (needs : Needs) (s : State) : Type 0 where
  pub needs_is : s.needs ≡ needs
  pub fits : AllAt (Fits needs) s.table.requests

pub fit_begun : (needs : Needs) (wait : ℕ) → AreFit needs (begun needs wait)
fit_begun needs wait = record { needs_is = refl; fits = All-nil (λ (r : Request). Fits needs r.stage) }

pub fit_moment : (needs : Needs) (s : State) (up : ℕ) → AreFit needs s → AreFit needs (at_moment s up)
fit_moment needs s up h = record { needs_is = h.needs_is; fits = h.fits }

pub fit_came : (needs : Needs) (s : State) → AreFit needs s → AreFit needs (came s)
fit_came needs s h =
    cond_both (has_number s) (entered s) s (AreFit needs)
    (λ _. record { needs_is = h.needs_is; fits = All-values-insert_entry nat_cmp s.next (record { deadline = deadline s; stage = Judging }) (λ (r : Request). Fits needs r.stage) s.table.requests h.fits tt })
    (λ _. h)

pub fit_subject : (needs : Needs) (s : State) (e : Event) (p : ℕ × Request) → subject e s.table.requests ≡ Some p → AreFit needs s → Fits needs p.1.stage
fit_subject needs s e p is h = at_find (Fits needs) (fits_turned needs) p.0 s.table.requests p.1 h.fits (subject_found e s.table.requests p is)

pub fit_heard : (needs : Needs) (refused : Bool) (s : State) (e : Event) → AreFit needs s → AreFit needs (heard refused s e)
fit_heard needs refused s e h = record { needs_is = h.needs_is; fits = left (subject e s.table.requests) refl }
  where
    left : (o : Option (ℕ × Request)) → subject e s.table.requests ≡ o → AllAt (Fits needs) (left_by s.needs refused s.now e s.table o).requests
    left None is = h.fits
    left (Some p) is =
        let pl = plan s.needs (held_by e s.table) s.now e p.1 in
        let goes = subst (λ (x : Needs). OnGo (Fits needs) (plan x (held_by e s.table) s.now e p.1)) (sym h.needs_is) (plan_fits needs (held_by e s.table) s.now e p.1 (fit_subject needs s e p is h)) in
        all_followed (Fits needs) (fits_turned needs) p.0 p.1 (granted refused p.1 pl) s.table h.fits (granted_holds (OnGo (Fits needs)) refused p.1 pl goes tt)
