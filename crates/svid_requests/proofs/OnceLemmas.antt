-- Each request is answered once, the first one is due first, and those that are overdue are answered.
use Rattle.std.proofs.Common.{◌≡◌, ◌⊎◌, inl, inr, ℕ, ◌+◌, ◌<◌, ◌≤◌, Bool, true, false, cond, List, [], ◌∷◌, ◌++◌, length, length-append, arith, refl, sym, ap, ◌∙◌, Option, Some, None, is_some}
use Rattle.std.specs.Prelude.{◌==◌, ◌&&◌, not, nat_lt, nat_le}
use Rattle.std.specs.List.{slice_get}
use Rattle.std.specs.Option.{option_map}
use Rattle.std.proofs.lemmas.Bool.{eq-eqb, leb-false, le-ltb, lt-ltb, ne_eqb, false≢true}
use Rattle.svid_requests.specs.declared.needs.Needs.{Needs}
use Rattle.svid_requests.specs.declared.request.Request.{Request}
use Rattle.svid_requests.specs.declared.event.Event.{Event}
use Rattle.svid_requests.specs.declared.event.Event.TheVariants.{Overdue}
use Rattle.svid_requests.specs.declared.stage.Stage.TheVariants.{Judging}
use Rattle.svid_requests.specs.declared.plan.Plan.{Plan}
use Rattle.svid_requests.specs.declared.plan.Plan.TheVariants.{Stay, Go, Part}
use Rattle.svid_requests.specs.declared.verdict.Verdict.TheVariants.{Late}
use Rattle.svid_requests.specs.declared.deed.Deed.TheVariants.{Nothing as NothingToDo}
use Rattle.svid_requests.specs.Plans.{plan}
use Rattle.svid_requests.specs.Tables.{State, Table, at_moment, at_stage, deadline, deed_by, deed_of, entered, find, first, followed, granted, has_number, held_by, left_by, next_after, subject, turned}
use Rattle.svid_requests.specs.History.{Answered, Call, World, answered, at_state, fresh, history, let_in}
use Rattle.svid_requests.specs.History.Call.{Come, Hear}
use Rattle.svid_requests.specs.Promises.{CallsAreHistory, EachOnce, FirstIsDueFirst, OverdueAreAnswered, answers_to, count, one_if}
use Rattle.svid_requests.proofs.ListsLemmas.{below_more, get_push, get_within}
use Rattle.svid_requests.proofs.SoundLemmas.{no_answer, sound}
use Rattle.svid_requests.proofs.TablesLemmas.{NumbersRise, find_gone, find_let_in, find_parted, one, one_is, one_itself, first_is_least, subject_is, turned_at}

-- how many requests of a number have no answer yet
abbrev open_of : ℕ → Table → ℕ
open_of q t = one_if (is_some (find q t.requests))

one_same : (n q : ℕ) (b : Bool) → one n q ≡ b → one_if (n == q) ≡ one_if b
one_same n q true is = ap one_if (eq-eqb n q (one_is n q is))
one_same n q false is = ap one_if (ne_eqb n q (λ same. false≢true (sym is ∙ ap (one n) (sym same) ∙ one_itself n)))

some_turned : (next : Option ℕ) (q : ℕ) (o : Option Request) → is_some (turned_at next q o) ≡ is_some o
some_turned None q o = refl
some_turned (Some w) q o = by_place o (one w q)
  where
    by_place : (o : Option Request) (b : Bool) → is_some (cond b (option_map (λ r. at_stage (turned r.stage) r) o) o) ≡ is_some o
    by_place o false = refl
    by_place None true = refl
    by_place (Some r) true = refl

-- a plan for an open request keeps how many have its number, answered or open
kept_by : (q now n : ℕ) (r : Request) (p : Plan) (t : Table) (answers : List Answered) → NumbersRise t → find n t.requests ≡ Some r
    → count (λ a. a.number == q) (answered now (deed_of n r p t) answers) + open_of q (followed n r p t) ≡ count (λ a. a.number == q) answers + open_of q t
kept_by q now n r Stay t answers up is = refl
kept_by q now n r (Go g) t answers up is =
    let same = ap (count (λ (a : Answered). a.number == q)) (no_answer now n g answers) in
    let still : open_of q (followed n r (Go g) t) ≡ open_of q t = ap (λ (o : Option Request). one_if (is_some o)) (find_gone n r g t q is) ∙ here (one n q) refl in
    omega arith
  where
    here : (b : Bool) → one n q ≡ b → one_if (is_some (cond b (Some (at_stage g r)) (find q t.requests))) ≡ open_of q t
    here true same = ap (λ (o : Option Request). one_if (is_some o)) (sym is ∙ ap (λ k. find k t.requests) (one_is n q same))
    here false same = refl
kept_by q now n r (Part v) t answers up is =
    let left : open_of q (followed n r (Part v) t) ≡ one_if (is_some (cond (one n q) None (find q t.requests))) = ap (λ (o : Option Request). one_if (is_some o)) (find_parted n r t q up) ∙ ap one_if (some_turned (next_after r.stage t) q (cond (one n q) None (find q t.requests))) in
    let here = gone (one n q) refl in
    omega arith
  where
    gone : (b : Bool) → one n q ≡ b → one_if (n == q) + one_if (is_some (cond b None (find q t.requests))) ≡ open_of q t
    gone true same =
        let counted = one_same n q true same in
        let was : open_of q t ≡ 1 = ap (λ (o : Option Request). one_if (is_some o)) (ap (λ k. find k t.requests) (sym (one_is n q same)) ∙ is) in
        omega arith
    gone false same = let counted = one_same n q false same in omega arith

kept_heard : (q : ℕ) (needs : Needs) (now : ℕ) (e : Event) (refused : Bool) (t : Table) (answers : List Answered) (o : Option (ℕ × Request)) → NumbersRise t → subject e t.requests ≡ o
    → count (λ a. a.number == q) (answered now (deed_by needs refused now e t o) answers) + open_of q (left_by needs refused now e t o) ≡ count (λ a. a.number == q) answers + open_of q t
kept_heard q needs now e refused t answers None up is = refl
kept_heard q needs now e refused t answers (Some p) up is = kept_by q now p.0 p.1 (granted refused p.1 (plan needs (held_by e t) now e p.1)) t answers up (subject_is e t.requests p is).0

once_come : (q : ℕ) (s : State) (w : World) (b : Bool) → s.next ≡ length w.deadlines → answers_to q w + open_of q s.table ≡ one_if (nat_lt q (length w.deadlines))
    → answers_to q (cond {A = World} b (let_in s w) (at_state s w)) + open_of q (cond {A = World} b (let_in s w) (at_state s w)).state.table ≡ one_if (nat_lt q (length (cond {A = World} b (let_in s w) (at_state s w)).deadlines))
once_come q s w false next before = before
once_come q s w true next before =
    let longer : one_if (nat_lt q (length (w.deadlines ++ deadline s ∷ []))) ≡ one_if (nat_lt q (length w.deadlines + 1)) = ap (λ (m : ℕ). one_if (nat_lt q m)) (length-append w.deadlines (deadline s ∷ [])) in
    let more = below_more q (length w.deadlines) in
    let number : one_if (s.next == q) ≡ one_if (length w.deadlines == q) = ap (λ (m : ℕ). one_if (m == q)) next in
    let now = ap (λ (o : Option Request). one_if (is_some o)) (find_let_in s.next (deadline s) s.table q) in
    let new = entered (one q s.next) refl in
    omega arith
  where
    entered : (b : Bool) → one q s.next ≡ b → answers_to q w + one_if (is_some (cond b (Some (record { deadline = deadline s; stage = Judging })) (find q s.table.requests))) ≡ one_if (nat_lt q (length w.deadlines)) + one_if (s.next == q)
    entered true same =
        let is = one_is q s.next same in
        let counted : one_if (s.next == q) ≡ 1 = ap one_if (eq-eqb s.next q (sym is)) in
        let none : one_if (nat_lt q (length w.deadlines)) ≡ 0 = ap one_if (le-ltb q (length w.deadlines) (omega arith)) in
        omega arith
    entered false apart =
        let counted : one_if (s.next == q) ≡ 0 = ap one_if (ne_eqb s.next q (λ same. false≢true (sym apart ∙ ap (one q) same ∙ one_itself q))) in
        omega arith

pub each_once : EachOnce
each_once needs wait [] n = sym (ap one_if (le-ltb n 0 (omega arith)))
each_once needs wait (Come up refused ∷ calls) n =
    let w = history (fresh needs wait) calls in
    let s = at_moment w.state up in
    once_come n s w (has_number s && not refused) (sound needs wait calls).numbered (each_once needs wait calls n)
each_once needs wait (Hear up e refused ∷ calls) n =
    let w = history (fresh needs wait) calls in
    let s = at_moment w.state up in
    kept_heard n s.needs s.now e refused s.table w.answers (subject e s.table.requests) (sound needs wait calls).order.numbers refl ∙ each_once needs wait calls n

-- Deadlines never fall in the order of numbers, and one that comes now would have none that is earlier.

record NeverFall (w : World) : Type 0 where
  up_to : (n d : ℕ) → slice_get w.deadlines n ≡ Some d → d ≤ deadline w.state
  rise : (m n c d : ℕ) → slice_get w.deadlines m ≡ Some c → slice_get w.deadlines n ≡ Some d → m ≤ n → c ≤ d

later_is_more : (s : State) (up : ℕ) → deadline s ≤ deadline (at_moment s up)
later_is_more s up = omega arith

fall_come : (up : ℕ) (w : World) (b : Bool) → NeverFall w → NeverFall (cond {A = World} b (let_in (at_moment w.state up) w) (at_state (at_moment w.state up) w))
fall_come up w false h = record { up_to = λ n d is. let le = h.up_to n d is in let more = later_is_more w.state up in omega arith; rise = h.rise }
fall_come up w true h = record { up_to = λ n d is. to n d (get_push w.deadlines (deadline (at_moment w.state up)) d n is); rise = λ m n c d old new le. pair m n c d le (get_push w.deadlines (deadline (at_moment w.state up)) c m old) (get_push w.deadlines (deadline (at_moment w.state up)) d n new) }
  where
    to : (n d : ℕ) → (slice_get w.deadlines n ≡ Some d) ⊎ ((n ≡ length w.deadlines) × (deadline (at_moment w.state up) ≡ d)) → d ≤ deadline (at_moment w.state up)
    to n d (inl old) = let le = h.up_to n d old in let more = later_is_more w.state up in omega arith
    to n d (inr new) = let is = new.1 in omega arith

    pair : (m n c d : ℕ) → m ≤ n → (slice_get w.deadlines m ≡ Some c) ⊎ ((m ≡ length w.deadlines) × (deadline (at_moment w.state up) ≡ c)) → (slice_get w.deadlines n ≡ Some d) ⊎ ((n ≡ length w.deadlines) × (deadline (at_moment w.state up) ≡ d)) → c ≤ d
    pair m n c d le (inl a) (inl b) = h.rise m n c d a b le
    pair m n c d le a (inr b) = let below = to m c a in let is = b.1 in omega arith
    pair m n c d le (inr a) (inl b) = let within = get_within w.deadlines d n b in let is = a.0 in absurd (omega arith)

never_fall : (needs : Needs) (wait : ℕ) (calls : List Call) → NeverFall (history (fresh needs wait) calls)
never_fall needs wait [] = record { up_to = λ n d is. absurd cc; rise = λ m n c d is. absurd cc }
never_fall needs wait (Come up refused ∷ calls) = let w = history (fresh needs wait) calls in fall_come up w (has_number (at_moment w.state up) && not refused) (never_fall needs wait calls)
never_fall needs wait (Hear up e refused ∷ calls) =
    let w = history (fresh needs wait) calls in
    let h = never_fall needs wait calls in
    record { up_to = λ n d is. let le = h.up_to n d is in let more = later_is_more w.state up in omega arith; rise = h.rise }

pub first_is_due_first : FirstIsDueFirst
first_is_due_first needs wait calls p n r is found =
    let w = history (fresh needs wait) calls in
    let h = sound needs wait calls in
    (never_fall needs wait calls).rise p.0 n p.1.deadline r.deadline (h.each p.0 p.1 (subject_is Overdue w.state.table.requests p is).0).0 (h.each n r found).0 (first_is_least w.state.table.requests p n r h.order.numbers is found)

-- Those that are overdue are answered.

-- an event `Overdue` that finds nothing to do finds no request, or one that is not due
not_due : (needs : Needs) (refused : Bool) (now : ℕ) (t : Table) (p : ℕ × Request) (b : Bool) → nat_le p.1.deadline now ≡ b → deed_of p.0 p.1 (granted refused p.1 (cond b (Part Late) Stay)) t ≡ NothingToDo → now < p.1.deadline
not_due needs refused now t p true due is = absurd cc
not_due needs refused now t p false due is = leb-false p.1.deadline now due

none_open : (needs : Needs) (refused : Bool) (now n : ℕ) (t : Table) (o : Option (ℕ × Request)) (x : Option Request) → first t.requests ≡ o → find n t.requests ≡ x → deed_by needs refused now Overdue t o ≡ NothingToDo
    → ((p : ℕ × Request) (r : Request) → first t.requests ≡ Some p → find n t.requests ≡ Some r → now < p.1.deadline → ⊥) → x ≡ None
none_open needs refused now n t o None is found deed never = refl
none_open needs refused now n t None (Some r) is found deed never = absurd (first_if_found t.requests is found)
  where
    first_if_found : (es : List (ℕ × Request)) → first es ≡ None → find n es ≡ Some r → ⊥
    first_if_found [] is found = cc
    first_if_found (e ∷ es) is found = cc
none_open needs refused now n t (Some p) (Some r) is found deed never = absurd (never p r is found (not_due needs refused now t p (nat_le p.1.deadline now) refl deed))

pub overdue_are_answered : OverdueAreAnswered
overdue_are_answered needs wait calls up refused n d deed is over =
    let w = history (fresh needs wait) calls in
    let s = at_moment w.state up in
    let never : (p : ℕ × Request) (r : Request) → first s.table.requests ≡ Some p → find n s.table.requests ≡ Some r → s.now < p.1.deadline → ⊥ = λ p r first found ahead.
    let due = first_is_due_first needs wait calls p n r first found in
    let has = ((sound needs wait calls).each n r found).0 in
    let same : r.deadline ≡ d = cc in
    omega arith
    in
    let closed = ap (λ (o : Option Request). one_if (is_some o)) (none_open s.needs refused s.now n s.table (first s.table.requests) (find n s.table.requests) refl refl deed never) in
    let once = each_once needs wait calls n in
    let came : one_if (nat_lt n (length w.deadlines)) ≡ 1 = ap one_if (lt-ltb n (length w.deadlines) (get_within w.deadlines d n is)) in
    omega arith

-- Calls are as their contracts say.

pub calls_are_history : CallsAreHistory
calls_are_history w up e refused = (come (has_number (at_moment w.state up)), stay (has_number (at_moment w.state up)), refl, refl)
  where
    come : (b : Bool) → (cond {A = World} (b && true) (let_in (at_moment w.state up) w) (at_state (at_moment w.state up) w)).state ≡ cond b (entered (at_moment w.state up)) (at_moment w.state up)
    come true = refl
    come false = refl

    stay : (b : Bool) → (cond {A = World} (b && false) (let_in (at_moment w.state up) w) (at_state (at_moment w.state up) w)).state ≡ at_moment w.state up
    stay true = refl
    stay false = refl
