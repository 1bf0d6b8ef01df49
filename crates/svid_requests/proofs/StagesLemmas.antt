-- The deed of a call is about the request that arrives or moves on, and deeds fit what their calls leave.
use Rattle.std.proofs.Common.{◌≡◌, ◌⊎◌, inl, inr, ℕ, Bool, true, false, cond, refl, sym, ap, ◌∙◌, Option, Some, None}
use Rattle.std.specs.Prelude.{◌&&◌, not}
use Rattle.std.specs.Option.{option_map}
use Rattle.std.proofs.lemmas.Bool.{eq-eqb}
use Rattle.svid_requests.specs.declared.needs.Needs.{Needs}
use Rattle.svid_requests.specs.declared.verdict.Verdict.{Verdict}
use Rattle.svid_requests.specs.declared.request.Request.{Request}
use Rattle.svid_requests.specs.declared.event.Event.{Event}
use Rattle.svid_requests.specs.declared.stage.Stage.{Stage}
use Rattle.svid_requests.specs.declared.stage.Stage.TheVariants.{Judging, Writing, Claiming, Behind, Again}
use Rattle.svid_requests.specs.declared.plan.Plan.{Plan}
use Rattle.svid_requests.specs.declared.plan.Plan.TheVariants.{Stay, Go, Part}
use Rattle.svid_requests.specs.declared.deed.Deed.{Deed}
use Rattle.svid_requests.specs.declared.deed.Deed.TheVariants.{Answer, Judge}
use Rattle.svid_requests.specs.declared.deed.Deed.TheVariants.{Nothing as NothingToDo}
use Rattle.svid_requests.specs.Plans.{plan}
use Rattle.svid_requests.specs.Tables.{State, Table, at_moment, at_stage, come_deed, deadline, deed_at, deed_by, deed_of, find, followed, granted, has_number, held_by, is_judging, left_by, next_after, subject, turned}
use Rattle.svid_requests.specs.History.{World, at_state, fresh, happens, history, let_in}
use Rattle.svid_requests.specs.History.Call.{Hear}
use Rattle.svid_requests.specs.Promises.{DeedsFit, FitsDeed, StagesAreTold, brings, open_at, stage_is}
use Rattle.svid_requests.proofs.SoundLemmas.{sound}
use Rattle.svid_requests.proofs.TablesLemmas.{NumbersRise, find_gone, find_let_in, find_parted, one, one_is, one_itself, subject_is, turned_at}

-- what a deed tells of a request
abbrev IsTold : ℕ → Request → Option Request → Deed → Type 0
IsTold q s before deed = (before ≡ Some s) ⊎ ((deed ≡ deed_at q s.stage) ⊎ (brings q deed ≡ true))

told_parted : (n q : ℕ) (s : Request) (v : Verdict) (o : Option Request) (next : Option ℕ) → turned_at next q (cond (one n q) None o) ≡ Some s → IsTold q s o (Answer n v next)
told_parted n q s v o None found = stayed (one n q) found
  where
    stayed : (b : Bool) → cond b None o ≡ Some s → IsTold q s o (Answer n v None)
    stayed true found = absurd cc
    stayed false found = inl found
told_parted n q s v o (Some w) found = by_turn (one w q) (one n q) refl found
  where
    by_turn : (c b : Bool) → one w q ≡ c → cond c (option_map (λ r. at_stage (turned r.stage) r) (cond b None o)) (cond b None o) ≡ Some s → IsTold q s o (Answer n v (Some w))
    by_turn true b same found = inr (inr (eq-eqb w q (one_is w q same)))
    by_turn false true apart found = absurd cc
    by_turn false false apart found = inl found

told_followed : (n q : ℕ) (r s : Request) (p : Plan) (t : Table) → NumbersRise t → find n t.requests ≡ Some r → find q (followed n r p t).requests ≡ Some s → IsTold q s (find q t.requests) (deed_of n r p t)
told_followed n q r s Stay t up is found = inl found
told_followed n q r s (Go g) t up is found = by_place (one n q) refl (sym (find_gone n r g t q is) ∙ found)
  where
    by_place : (b : Bool) → one n q ≡ b → cond b (Some (at_stage g r)) (find q t.requests) ≡ Some s → IsTold q s (find q t.requests) (deed_at n g)
    by_place true same found =
        let stage : at_stage g r ≡ s = cc in
        inr (inl (ap (λ k. deed_at k g) (one_is n q same) ∙ ap (λ (x : Request). deed_at q x.stage) stage))
    by_place false apart found = inl found
told_followed n q r s (Part v) t up is found = told_parted n q s v (find q t.requests) (next_after r.stage t) (sym (find_parted n r t q up) ∙ found)

told_heard : (needs : Needs) (refused : Bool) (now : ℕ) (e : Event) (t : Table) (o : Option (ℕ × Request)) (q : ℕ) (s : Request) → subject e t.requests ≡ o → NumbersRise t → find q (left_by needs refused now e t o).requests ≡ Some s → IsTold q s (find q t.requests) (deed_by needs refused now e t o)
told_heard needs refused now e t None q s is up found = inl found
told_heard needs refused now e t (Some p) q s is up found = told_followed p.0 q p.1 s (granted refused p.1 (plan needs (held_by e t) now e p.1)) t up (subject_is e t.requests p is).0 found

told_come : (s : State) (w : World) (q : ℕ) (r : Request) (refused b : Bool) → has_number s ≡ b → find q (cond {A = World} (b && not refused) (let_in s w) (at_state s w)).state.table.requests ≡ Some r → (find q s.table.requests ≡ Some r) ⊎ (come_deed s ≡ deed_at q r.stage)
told_come s w q r refused false none found = inl found
told_come s w q r true true has found = inl found
told_come s w q r false true has found = by_place (one q s.next) refl (sym (find_let_in s.next (deadline s) s.table q) ∙ found)
  where
    by_place : (b : Bool) → one q s.next ≡ b → cond b (Some (record { deadline = deadline s; stage = Judging })) (find q s.table.requests) ≡ Some r → (find q s.table.requests ≡ Some r) ⊎ (come_deed s ≡ deed_at q r.stage)
    by_place true same found =
        let new : record { deadline = deadline s; stage = Judging } ≡ r = cc in
        inr (rw has (ap (λ k. deed_at k Judging) (sym (one_is q s.next same)) ∙ ap (λ (x : Request). deed_at q x.stage) new))
    by_place false apart found = inl found

pub stages_are_told : StagesAreTold
stages_are_told needs wait calls up e refused n r =
    let w = history (fresh needs wait) calls in
    let s = at_moment w.state up in
    (told_come s w n r refused (has_number s) refl, told_heard s.needs refused s.now e s.table (subject e s.table.requests) n r refl (sound needs wait calls).order.numbers)

-- A deed fits what its call leaves.

fits_stage : (n : ℕ) (r : Request) (g : Stage) (w : World) → open_at n w ≡ Some (at_stage g r) → FitsDeed w (deed_at n g)
fits_stage n r Judging w is = ap (stage_is is_judging) is
fits_stage n r (Writing u) w is = (r.deadline, is)
fits_stage n r (Claiming u) w is = (r.deadline, is)
fits_stage n r (Behind u) w is = tt
fits_stage n r (Again u) w is = ap (stage_is is_judging) is

none_turned : (next : Option ℕ) (q : ℕ) → turned_at next q None ≡ None
none_turned None q = refl
none_turned (Some w) q = elim (one w q) as (λ b. cond b (option_map (λ r. at_stage (turned r.stage) r) None) None ≡ None) [ true ↦ refl | false ↦ refl ]

fits_followed : (n : ℕ) (r : Request) (p : Plan) (t : Table) (w : World) → NumbersRise t → find n t.requests ≡ Some r → w.state.table ≡ followed n r p t → FitsDeed w (deed_of n r p t)
fits_followed n r Stay t w up is left = tt
fits_followed n r (Go g) t w up is left = fits_stage n r g w (ap (λ (x : Table). find n x.requests) left ∙ find_gone n r g t n is ∙ ap (λ b. cond b (Some (at_stage g r)) (find n t.requests)) (one_itself n))
fits_followed n r (Part v) t w up is left = ap (λ (x : Table). find n x.requests) left ∙ find_parted n r t n up ∙ ap (λ b. turned_at (next_after r.stage t) n (cond b None (find n t.requests))) (one_itself n) ∙ none_turned (next_after r.stage t) n

fits_heard : (needs : Needs) (refused : Bool) (now : ℕ) (e : Event) (t : Table) (o : Option (ℕ × Request)) (w : World) → subject e t.requests ≡ o → NumbersRise t → w.state.table ≡ left_by needs refused now e t o → FitsDeed w (deed_by needs refused now e t o)
fits_heard needs refused now e t None w is up left = tt
fits_heard needs refused now e t (Some p) w is up left = fits_followed p.0 p.1 (granted refused p.1 (plan needs (held_by e t) now e p.1)) t w up (subject_is e t.requests p is).0 left

fits_come : (s : State) (w : World) (b : Bool) → FitsDeed (cond {A = World} (b && true) (let_in s w) (at_state s w)) (cond b (Judge s.next) NothingToDo)
fits_come s w false = tt
fits_come s w true = ap (stage_is is_judging) (find_let_in s.next (deadline s) s.table s.next ∙ ap (λ b. cond b (Some (record { deadline = deadline s; stage = Judging })) (find s.next s.table.requests)) (one_itself s.next))

pub deeds_fit : DeedsFit
deeds_fit needs wait calls up e refused =
    let w = history (fresh needs wait) calls in
    let s = at_moment w.state up in
    (fits_come s w (has_number s), fits_heard s.needs refused s.now e s.table (subject e s.table.requests) (happens w (Hear up e refused)) refl (sound needs wait calls).order.numbers refl)
