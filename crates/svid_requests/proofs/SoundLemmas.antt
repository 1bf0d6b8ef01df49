-- What holds of each open request and of each answer, over every history.
use Rattle.std.proofs.Common.{◌≡◌, ◌⊎◌, inl, inr, ℕ, Bool, true, false, cond, List, [], ◌∷◌, ◌++◌, length, length-append, arith, refl, sym, subst, Option, Some, None}
use Rattle.std.specs.Prelude.{◌&&◌, not}
use Rattle.std.specs.List.{AllByRecursion, slice_get}
use Rattle.svid_replay.specs.declared.token_use.Use.{Use}
use Rattle.svid_requests.specs.declared.needs.Needs.{Needs}
use Rattle.svid_requests.specs.declared.needs.Needs.TheVariants.{Nothing, Write, Claim}
use Rattle.svid_requests.specs.declared.judgment.Judgment.TheVariants.{Passes, Holds}
use Rattle.svid_requests.specs.declared.verdict.Verdict.{Verdict}
use Rattle.svid_requests.specs.declared.verdict.Verdict.TheVariants.{Accept, Refuse}
use Rattle.svid_requests.specs.declared.request.Request.{Request}
use Rattle.svid_requests.specs.declared.event.Event.{Event}
use Rattle.svid_requests.specs.declared.event.Event.TheVariants.{Judged, Found}
use Rattle.svid_requests.specs.declared.stage.Stage.{Stage}
use Rattle.svid_requests.specs.declared.stage.Stage.TheVariants.{Judging, Writing, Claiming, Behind, Again}
use Rattle.svid_requests.specs.declared.plan.Plan.{Plan}
use Rattle.svid_requests.specs.declared.plan.Plan.TheVariants.{Stay, Go, Part}
use Rattle.svid_requests.specs.Plans.{plan}
use Rattle.svid_requests.specs.Tables.{Table, at_moment, deadline, deed_at, deed_by, deed_of, find, granted, has_number, held_by, left_by, subject, turned}
use Rattle.svid_requests.specs.History.{Answered, Call, World, answered, at_state, fresh, history, let_in}
use Rattle.svid_requests.specs.History.Call.{Come, Hear}
use Rattle.svid_requests.specs.Promises.{AcceptedInTime, AnswersAreFounded, IsFounded, IsInTime, RestsOn, Told}
use Rattle.svid_requests.proofs.ListsLemmas.{all_weaker, get_push_new, get_push_old, get_within}
use Rattle.svid_requests.proofs.PlansLemmas.{Why, WhyAccept, WhyGo, granted_why}
use Rattle.svid_requests.proofs.TablesLemmas.{Each, InOrder, each_followed, each_let_in, followed_in_order, let_in_in_order, none_in_order, subject_is}

-- What was reported stays reported.

abbrev StaysTold : List Call → List Call → Type 0
StaysTold calls more = (e : Event) → Told e calls → Told e more

-- a stage fits what an acceptance needs, and a validator has passed the token
abbrev pub Rests : Needs → List Call → ℕ → Stage → Type 0
Rests needs calls n Judging = Unit {0}
Rests needs calls n (Writing u) = (needs ≡ Write) × Told (Judged n (Passes u)) calls
Rests needs calls n (Claiming u) = (needs ≡ Claim) × Told (Judged n (Passes u)) calls
Rests needs calls n (Behind u) = (needs ≡ Claim) × Told (Judged n (Passes u)) calls
Rests needs calls n (Again u) = (needs ≡ Claim) × Told (Judged n (Passes u)) calls

rests_more : (calls more : List Call) → StaysTold calls more → (needs : Needs) (n : ℕ) (g : Stage) → Rests needs calls n g → Rests needs more n g
rests_more calls more stays needs n Judging h = tt
rests_more calls more stays needs n g h = (h.0, stays _ h.1)

rests_turned : (needs : Needs) (calls : List Call) (n : ℕ) (g : Stage) → Rests needs calls n g → Rests needs calls n (turned g)
rests_turned needs calls n (Behind u) h = h
rests_turned needs calls n g h = h

rests_gone : (needs : Needs) (held : Bool) (up : ℕ) (e : Event) (refused : Bool) (calls : List Call) (n : ℕ) (was g : Stage)
    → Rests needs (Hear up e refused ∷ calls) n was → WhyGo needs held e n was g → Rests needs (Hear up e refused ∷ calls) n g
rests_gone needs held up e refused calls n was Judging h why = absurd why
rests_gone needs held up e refused calls n was (Writing u) h why = (why.0, inl why.2)
rests_gone needs held up e refused calls n was (Claiming u) h (inl why) = (why.0, inl why.3)
rests_gone needs held up e refused calls n was (Claiming u) h (inr (inl is)) = subst (Rests needs (Hear up e refused ∷ calls) n) is h
rests_gone needs held up e refused calls n was (Claiming u) h (inr (inr is)) = subst (Rests needs (Hear up e refused ∷ calls) n) is h
rests_gone needs held up e refused calls n was (Behind u) h why = (why.0, inl why.3)
rests_gone needs held up e refused calls n was (Again u) h why = absurd why

-- Answers.

on_more : (needs : Needs) (calls more : List Call) → StaysTold calls more → (n : ℕ) (u : Use) → RestsOn needs calls n u → RestsOn needs more n u
on_more Nothing calls more stays n u h = stays (Judged n (Passes u)) h
on_more Write calls more stays n u h = (stays _ h.0, stays _ h.1)
on_more Claim calls more stays n u h = ((h.0.0, stays _ h.0.1), one_more (Found n (Passes u)) (Found n (Holds u)) h.1)
  where
    one_more : (a b : Event) → Told a calls ⊎ Told b calls → Told a more ⊎ Told b more
    one_more a b (inl h) = inl (stays a h)
    one_more a b (inr h) = inr (stays b h)

founded_more : (needs : Needs) (calls more : List Call) → StaysTold calls more → (n : ℕ) (v : Verdict) → IsFounded needs calls n v → IsFounded needs more n v
founded_more needs calls more stays n (Accept u) (inl h) = inl (stays (Judged n (Holds u)) h)
founded_more needs calls more stays n (Accept u) (inr h) = inr (on_more needs calls more stays n u h)
founded_more needs calls more stays n (Refuse why) (inl h) = inl (stays _ h)
founded_more needs calls more stays n (Refuse why) (inr h) = inr (stays _ h)
founded_more needs calls more stays n v h = tt

accepted_founded : (needs : Needs) (up : ℕ) (e : Event) (refused : Bool) (calls : List Call) (n : ℕ) (was : Stage) (u : Use)
    → Rests needs (Hear up e refused ∷ calls) n was → WhyAccept needs e n was u → IsFounded needs (Hear up e refused ∷ calls) n (Accept u)
accepted_founded needs up e refused calls n was u h (inl holds) = inl (inl holds)
accepted_founded needs up e refused calls n was u h (inr (inl why)) = inr (subst (λ m. RestsOn m (Hear up e refused ∷ calls) n u) (sym why.0) (inl why.1))
accepted_founded needs up e refused calls n was u h (inr (inr (inl why))) =
    let rests = subst (Rests needs (Hear up e refused ∷ calls) n) why.0 h in
    inr (subst (λ m. RestsOn m (Hear up e refused ∷ calls) n u) (sym rests.0) (rests.1, inl why.1))
accepted_founded needs up e refused calls n was u h (inr (inr (inr why))) =
    let rests = subst (Rests needs (Hear up e refused ∷ calls) n) why.1 h in
    inr (subst (λ m. RestsOn m (Hear up e refused ∷ calls) n u) (sym rests.0) ((why.0, rests.1), either why.2))
  where
    either : (e ≡ Found n (Passes u)) ⊎ (e ≡ Found n (Holds u)) → Told (Found n (Passes u)) (Hear up e refused ∷ calls) ⊎ Told (Found n (Holds u)) (Hear up e refused ∷ calls)
    either (inl is) = inl (inl is)
    either (inr is) = inr (inl is)

-- an answer is in time and founded
abbrev IsGood : Needs → List Call → List ℕ → Answered → Type 0
IsGood needs calls ds a = IsInTime ds a a.verdict × IsFounded needs calls a.number a.verdict

in_time_more : (ds : List ℕ) (d : ℕ) (a : Answered) (v : Verdict) → IsInTime ds a v → IsInTime (ds ++ d ∷ []) a v
in_time_more ds d a (Accept u) h = (h.0, get_push_old ds d h.0 a.number h.1, h.2)
in_time_more ds d a v h = tt

-- what holds of each open request
abbrev IsSound : Needs → List Call → List ℕ → ℕ → Request → Type 0
IsSound needs calls ds n r = (slice_get ds n ≡ Some r.deadline) × Rests needs calls n r.stage

good_part : (needs : Needs) (held : Bool) (now up : ℕ) (e : Event) (refused : Bool) (calls : List Call) (ds : List ℕ) (n : ℕ) (r : Request) (v : Verdict)
    → IsSound needs (Hear up e refused ∷ calls) ds n r → Why needs held now e n r.deadline r.stage (Part v) → IsGood needs (Hear up e refused ∷ calls) ds (record { number = n; verdict = v; at = now })
good_part needs held now up e refused calls ds n r (Accept u) h why = ((r.deadline, h.0, why.0), accepted_founded needs up e refused calls n r.stage u h.1 why.1)
good_part needs held now up e refused calls ds n r (Refuse reason) h (inl is) = (tt, inl (inl is))
good_part needs held now up e refused calls ds n r (Refuse reason) h (inr is) = (tt, inr (inl is))
good_part needs held now up e refused calls ds n r v h why = (tt, tt)

-- a stage is no answer
pub no_answer : (now n : ℕ) (g : Stage) (answers : List Answered) → answered now (deed_at n g) answers ≡ answers
no_answer now n Judging answers = refl
no_answer now n g answers = refl

all_answered : (P : Answered → Type 0) (now n : ℕ) (r : Request) (p : Plan) (t : Table) (answers : List Answered) → AllByRecursion P answers → ((v : Verdict) → p ≡ Part v → P (record { number = n; verdict = v; at = now })) → AllByRecursion P (answered now (deed_of n r p t) answers)
all_answered P now n r Stay t answers all parts = all
all_answered P now n r (Go g) t answers all parts = subst (AllByRecursion P) (sym (no_answer now n g answers)) all
all_answered P now n r (Part v) t answers all parts = (parts v refl, all)

-- The whole.

pub record Sound (needs : Needs) (calls : List Call) (w : World) : Type 0 where
  pub needed : w.state.needs ≡ needs
  pub numbered : w.state.next ≡ length w.deadlines
  pub order : InOrder w.state.table
  pub each : Each (IsSound needs calls w.deadlines) w.state.table
  pub good : AllByRecursion (IsGood needs calls w.deadlines) w.answers

sound_come : (needs : Needs) (calls : List Call) (up : ℕ) (refused b : Bool) (w : World) → Sound needs calls w
    → Sound needs (Come up refused ∷ calls) (cond {A = World} b (let_in (at_moment w.state up) w) (at_state (at_moment w.state up) w))
sound_come needs calls up refused true w h =
    let s = at_moment w.state up in
    let d = deadline s in
    record {
      needed = h.needed;
      numbered = omega (arith, h.numbered, length-append w.deadlines (d ∷ []));
      order = let_in_in_order s.next d s.table h.order;
      each = each_let_in (IsSound needs (Come up refused ∷ calls) (w.deadlines ++ d ∷ [])) s.next d s.table
          (λ q r found. let sound = h.each q r found in (get_push_old w.deadlines d r.deadline q sound.0, rests_more calls (Come up refused ∷ calls) (λ e told. told) needs q r.stage sound.1))
          (get_push_new w.deadlines d s.next h.numbered, tt);
      good = all_weaker (IsGood needs calls w.deadlines) (IsGood needs (Come up refused ∷ calls) (w.deadlines ++ d ∷ [])) w.answers (λ a is. (in_time_more w.deadlines d a a.verdict is.0, founded_more needs calls (Come up refused ∷ calls) (λ e told. told) a.number a.verdict is.1)) h.good;
    }
sound_come needs calls up refused false w h = record {
  needed = h.needed;
  numbered = h.numbered;
  order = h.order;
  each = λ q r found. let sound = h.each q r found in (sound.0, rests_more calls (Come up refused ∷ calls) (λ e told. told) needs q r.stage sound.1);
  good = all_weaker (IsGood needs calls w.deadlines) (IsGood needs (Come up refused ∷ calls) w.deadlines) w.answers (λ a is. (is.0, founded_more needs calls (Come up refused ∷ calls) (λ e told. told) a.number a.verdict is.1)) h.good;
}

-- the requests and the answers after an event that is about one of them, or about none
sound_heard : (needs m : Needs) → m ≡ needs → (calls : List Call) (up now : ℕ) (e : Event) (refused : Bool) (t : Table) (ds : List ℕ) (answers : List Answered) (o : Option (ℕ × Request)) → subject e t.requests ≡ o → InOrder t
    → Each (IsSound needs (Hear up e refused ∷ calls) ds) t → AllByRecursion (IsGood needs (Hear up e refused ∷ calls) ds) answers
    → InOrder (left_by m refused now e t o) × Each (IsSound needs (Hear up e refused ∷ calls) ds) (left_by m refused now e t o) × AllByRecursion (IsGood needs (Hear up e refused ∷ calls) ds) (answered now (deed_by m refused now e t o) answers)
sound_heard needs m same calls up now e refused t ds answers None is order each good = (order, each, good)
sound_heard needs m same calls up now e refused t ds answers (Some p) is order each good =
    let found = subject_is e t.requests p is in
    let held = held_by e t in
    let pl = granted refused p.1 (plan m held now e p.1) in
    let why = subst (λ (x : Needs). Why x held now e p.0 p.1.deadline p.1.stage pl) same (granted_why m held refused now e p.0 p.1 found.1) in
    let sound = each p.0 p.1 found.0 in (
      followed_in_order p.0 p.1 pl t order,
      each_followed (IsSound needs (Hear up e refused ∷ calls) ds) p.0 p.1 pl t order.numbers found.0 each (λ q r h. (h.0, rests_turned needs (Hear up e refused ∷ calls) q r.stage h.1))
          (λ g goes. (sound.0, rests_gone needs held up e refused calls p.0 p.1.stage g sound.1 (subst (Why needs held now e p.0 p.1.deadline p.1.stage) goes why))),
      all_answered (IsGood needs (Hear up e refused ∷ calls) ds) now p.0 p.1 pl t answers good (λ v parts. good_part needs held now up e refused calls ds p.0 p.1 v sound (subst (Why needs held now e p.0 p.1.deadline p.1.stage) parts why)),
    )

pub sound : (needs : Needs) (wait : ℕ) (calls : List Call) → Sound needs calls (history (fresh needs wait) calls)
sound needs wait [] = record { needed = refl; numbered = refl; order = none_in_order; each = λ q r found. absurd cc; good = tt }
sound needs wait (Come up refused ∷ calls) =
    let w = history (fresh needs wait) calls in
    sound_come needs calls up refused (has_number (at_moment w.state up) && not refused) w (sound needs wait calls)
sound needs wait (Hear up e refused ∷ calls) =
    let w = history (fresh needs wait) calls in
    let s = at_moment w.state up in
    let h = sound needs wait calls in
    let after = sound_heard needs s.needs h.needed calls up s.now e refused s.table w.deadlines w.answers (subject e s.table.requests) refl h.order
    (λ q r found. let is = h.each q r found in (is.0, rests_more calls (Hear up e refused ∷ calls) (λ f told. inr told) needs q r.stage is.1))
    (all_weaker (IsGood needs calls w.deadlines) (IsGood needs (Hear up e refused ∷ calls) w.deadlines) w.answers (λ a is. (is.0, founded_more needs calls (Hear up e refused ∷ calls) (λ f told. inr told) a.number a.verdict is.1)) h.good)
    in
    record { needed = h.needed; numbered = h.numbered; order = after.0; each = after.1; good = after.2 }

pub accepted_in_time : AcceptedInTime
accepted_in_time needs wait calls = let w = history (fresh needs wait) calls in all_weaker (IsGood needs calls w.deadlines) (λ a. IsInTime w.deadlines a a.verdict) w.answers (λ a is. is.0) (sound needs wait calls).good

pub answers_are_founded : AnswersAreFounded
answers_are_founded needs wait calls = let w = history (fresh needs wait) calls in all_weaker (IsGood needs calls w.deadlines) (λ a. IsFounded needs calls a.number a.verdict) w.answers (λ a is. is.1) (sound needs wait calls).good

-- the next number is that of no open request
pub next_is_new : (needs : Needs) (calls : List Call) (w : World) → Sound needs calls w → find w.state.next w.state.table.requests ≡ None
next_is_new needs calls w h = by_found (find w.state.next w.state.table.requests) refl
  where
    by_found : (o : Option Request) → find w.state.next w.state.table.requests ≡ o → o ≡ None
    by_found None is = refl
    by_found (Some r) is =
        let within = get_within w.deadlines r.deadline w.state.next (h.each w.state.next r is).0 in
        let number = h.numbered in
        absurd (omega arith)
