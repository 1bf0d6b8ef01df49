-- No more tokens are accepted than were judged, or found.
use Rattle.std.proofs.Common.{◌≡◌, ◌⊎◌, inl, inr, ℕ, ◌+◌, ◌≤◌, Bool, true, false, cond, List, [], ◌∷◌, arith, refl, sym, ap, ◌∙◌, subst, Option, Some, None}
use Rattle.std.specs.Prelude.{◌&&◌, not}
use Rattle.std.specs.List.{sum_by}
use Rattle.std.specs.Map.{values_of}
use Rattle.std.specs.BTreeMap.{is_at}
use Rattle.std.specs.Option.{option_map, unwrap_or}
use Rattle.std.specs.Ordering.{nat_cmp}
use Rattle.std.proofs.lemmas.Cmp.{nat_cmp_total}
use Rattle.std.proofs.lemmas.Map.Entries.{sum_by-insert_entry, sum_by-remove_entry, sum_by-set_value}
use Rattle.svid_replay.specs.declared.token_use.Use.{Use}
use Rattle.svid_requests.specs.declared.needs.Needs.{Needs}
use Rattle.svid_requests.specs.declared.needs.Needs.TheVariants.{Nothing, Write, Claim}
use Rattle.svid_requests.specs.declared.judgment.Judgment.TheVariants.{Passes, Holds}
use Rattle.svid_requests.specs.declared.verdict.Verdict.TheVariants.{Accept}
use Rattle.svid_requests.specs.declared.request.Request.{Request}
use Rattle.svid_requests.specs.declared.event.Event.{Event}
use Rattle.svid_requests.specs.declared.event.Event.TheVariants.{Found}
use Rattle.svid_requests.specs.declared.stage.Stage.{Stage}
use Rattle.svid_requests.specs.declared.stage.Stage.TheVariants.{Judging, Writing, Claiming, Behind, Again}
use Rattle.svid_requests.specs.declared.plan.Plan.{Plan}
use Rattle.svid_requests.specs.declared.plan.Plan.TheVariants.{Stay, Go, Part}
use Rattle.svid_requests.specs.Lines.{first_of}
use Rattle.svid_requests.specs.Plans.{plan}
use Rattle.svid_requests.specs.Tables.{State, Table, at_moment, at_stage, deadline, deed_by, deed_of, find, followed, granted, hand_to, has_number, held_by, left_at, left_by, restaged, subject, turn, turned, without}
use Rattle.svid_requests.specs.History.{Answered, Call, World, answered, at_state, fresh, history, let_in}
use Rattle.svid_requests.specs.History.Call.{Come, Hear}
use Rattle.svid_requests.specs.Promises.{AcceptedAsFound, AcceptedAsJudged, accepted, accepts, count, is_found, is_judged, one_if, told}
use Rattle.svid_requests.proofs.PlansLemmas.{Why, WhyAccept, granted_why}
use Rattle.svid_requests.proofs.SoundLemmas.{Rests, next_is_new, no_answer, sound}
use Rattle.svid_requests.proofs.TablesLemmas.{Each, NumbersRise, joined_keeps, subject_is}

-- how many acceptances of a use that passes a test a plan gives
abbrev gain : (Use → Bool) → Plan → ℕ
gain p (Part v) = one_if (accepts p v)
gain p _ = 0

gains : (p : Use → Bool) (now n : ℕ) (r : Request) (pl : Plan) (t : Table) (answers : List Answered) → count (λ a. accepts p a.verdict) (answered now (deed_of n r pl t) answers) ≡ gain p pl + count (λ a. accepts p a.verdict) answers
gains p now n r Stay t answers = omega arith
gains p now n r (Go g) t answers = let same = ap (count (λ (a : Answered). accepts p a.verdict)) (no_answer now n g answers) in omega arith
gains p now n r (Part v) t answers = refl

-- such a use is on its way to the disk
abbrev writes : (Use → Bool) → Stage → ℕ
writes p (Writing u) = one_if (p u)
writes p _ = 0

writes_turned : (p : Use → Bool) (g : Stage) → writes p (turned g) ≡ writes p g
writes_turned p (Behind u) = refl
writes_turned p g = refl

-- how many are on their way
abbrev writing : (Use → Bool) → List (ℕ × Request) → ℕ
writing p es = sum_by (λ (r : Request). writes p r.stage) (values_of es)

writing_restaged : (p : Use → Bool) (n : ℕ) (r : Request) (g : Stage) (es : List (ℕ × Request)) → find n es ≡ Some r → writing p (restaged n r g es) + writes p r.stage ≡ writing p es + writes p g
writing_restaged p n r g es is = sum_by-set_value (λ (r : Request). writes p r.stage) (is_at (nat_cmp n)) es r (at_stage g r) is

writing_turn : (p : Use → Bool) (w : ℕ) (o : Option Request) (es : List (ℕ × Request)) → find w es ≡ o → writing p (turn w o es) ≡ writing p es
writing_turn p w None es is = refl
writing_turn p w (Some r) es is = let moved = writing_restaged p w r (turned r.stage) es is in let same = writes_turned p r.stage in omega arith

writing_handed : (p : Use → Bool) (key : List ℕ) (o : Option ℕ) (t : Table) → writing p (hand_to key o t).requests ≡ writing p t.requests
writing_handed p key None t = refl
writing_handed p key (Some w) t = writing_turn p w (find w t.requests) t.requests refl

writing_left : (p : Use → Bool) (n : ℕ) (g : Stage) (t : Table) → writing p (left_at n g t).requests ≡ writing p t.requests
writing_left p n (Claiming u) t = writing_handed p u.key (first_of u.key t.lines) t
writing_left p n (Again u) t = writing_handed p u.key (first_of u.key t.lines) t
writing_left p n g t = refl

-- whether the use of a request is on its way after a plan
abbrev writes_after : (Use → Bool) → Stage → Plan → ℕ
writes_after p was Stay = writes p was
writes_after p was (Go g) = writes p g
writes_after p was (Part v) = 0

writing_followed : (p : Use → Bool) (n : ℕ) (r : Request) (pl : Plan) (t : Table) → find n t.requests ≡ Some r → writing p (followed n r pl t).requests + writes p r.stage ≡ writing p t.requests + writes_after p r.stage pl
writing_followed p n r Stay t is = refl
writing_followed p n r (Go g) t is = ap (λ (es : List (ℕ × Request)). writing p (restaged n r g es) + writes p r.stage) (joined_keeps n r.stage g t) ∙ writing_restaged p n r g t.requests is
writing_followed p n r (Part v) t is =
    let left = writing_left p n r.stage (without n t) in
    let removed = sum_by-remove_entry (λ (r : Request). writes p r.stage) (is_at (nat_cmp n)) t.requests in
    let here : unwrap_or (option_map (λ (r : Request). writes p r.stage) (find n t.requests)) 0 ≡ writes p r.stage = ap (λ (o : Option Request). unwrap_or (option_map (λ (r : Request). writes p r.stage) o) 0) is in
    omega arith

-- Where no claim is needed.

covered_accept : (p : Use → Bool) (needs : Needs) (calls : List Call) (e : Event) (n : ℕ) (was : Stage) (u : Use) → (needs ≡ Claim → ⊥) → Rests needs calls n was → WhyAccept needs e n was u → one_if (p u) ≤ writes p was + one_if (is_judged p e)
covered_accept p needs calls e n was u free h (inl is) = let told = ap (λ (f : Event). one_if (is_judged p f)) is in omega arith
covered_accept p needs calls e n was u free h (inr (inl why)) = let told = ap (λ (f : Event). one_if (is_judged p f)) why.1 in omega arith
covered_accept p needs calls e n was u free h (inr (inr (inl why))) = let written = ap (writes p) why.0 in omega arith
covered_accept p needs calls e n was u free h (inr (inr (inr why))) = absurd (free (subst (Rests needs calls n) why.1 h).0)

covered : (p : Use → Bool) (needs : Needs) (held : Bool) (now : ℕ) (calls : List Call) (e : Event) (n d : ℕ) (was : Stage) (pl : Plan) → (needs ≡ Claim → ⊥) → Rests needs calls n was → Why needs held now e n d was pl → gain p pl + writes_after p was pl ≤ writes p was + one_if (is_judged p e)
covered p needs held now calls e n d was (Go (Writing u)) free h why = let told = ap (λ (f : Event). one_if (is_judged p f)) why.2 in omega arith
covered p needs held now calls e n d was (Part (Accept u)) free h why = let all = covered_accept p needs calls e n was u free h why.1 in omega arith
covered p needs held now calls e n d was pl free h why = omega arith

-- Where one is.

found_accept : (p : Use → Bool) (needs : Needs) (calls : List Call) (e : Event) (n : ℕ) (was : Stage) (u : Use) → needs ≡ Claim → Rests needs calls n was → WhyAccept needs e n was u → one_if (p u) ≤ one_if (is_found p e)
found_accept p needs calls e n was u is h (inl holds) = let told = ap (λ (f : Event). one_if (is_found p f)) holds in omega arith
found_accept p needs calls e n was u is h (inr (inl why)) = let never = why.0 in absurd cc
found_accept p needs calls e n was u is h (inr (inr (inl why))) = let never = (subst (Rests needs calls n) why.0 h).0 in absurd cc
found_accept p needs calls e n was u is h (inr (inr (inr why))) = either why.2
  where
    either : (e ≡ Found n (Passes u)) ⊎ (e ≡ Found n (Holds u)) → one_if (p u) ≤ one_if (is_found p e)
    either (inl passes) = let told = ap (λ (f : Event). one_if (is_found p f)) passes in omega arith
    either (inr holds) = let told = ap (λ (f : Event). one_if (is_found p f)) holds in omega arith

gained : (p : Use → Bool) (needs : Needs) (held : Bool) (now : ℕ) (calls : List Call) (e : Event) (n d : ℕ) (was : Stage) (pl : Plan) → needs ≡ Claim → Rests needs calls n was → Why needs held now e n d was pl → gain p pl ≤ one_if (is_found p e)
gained p needs held now calls e n d was (Part (Accept u)) is h why = found_accept p needs calls e n was u is h why.1
gained p needs held now calls e n d was pl is h why = omega arith

-- Over a history.

judged_heard : (p : Use → Bool) (m : Needs) (refused : Bool) (now : ℕ) (calls : List Call) (e : Event) (t : Table) (answers : List Answered) (o : Option (ℕ × Request)) → subject e t.requests ≡ o → (m ≡ Claim → ⊥) → Each (λ n r. Rests m calls n r.stage) t
    → count (λ a. accepts p a.verdict) (answered now (deed_by m refused now e t o) answers) + writing p (left_by m refused now e t o).requests ≤ one_if (is_judged p e) + (count (λ a. accepts p a.verdict) answers + writing p t.requests)
judged_heard p m refused now calls e t answers None is free each = omega arith
judged_heard p m refused now calls e t answers (Some q) is free each =
    let found = subject_is e t.requests q is in
    let pl = granted refused q.1 (plan m (held_by e t) now e q.1) in
    let more = gains p now q.0 q.1 pl t answers in
    let left = writing_followed p q.0 q.1 pl t found.0 in
    let all = covered p m (held_by e t) now calls e q.0 q.1.deadline q.1.stage pl free (each q.0 q.1 found.0) (granted_why m (held_by e t) refused now e q.0 q.1 found.1) in
    omega arith

found_heard : (p : Use → Bool) (m : Needs) (refused : Bool) (now : ℕ) (calls : List Call) (e : Event) (t : Table) (answers : List Answered) (o : Option (ℕ × Request)) → subject e t.requests ≡ o → m ≡ Claim → Each (λ n r. Rests m calls n r.stage) t
    → count (λ a. accepts p a.verdict) (answered now (deed_by m refused now e t o) answers) ≤ one_if (is_found p e) + count (λ a. accepts p a.verdict) answers
found_heard p m refused now calls e t answers None is claim each = omega arith
found_heard p m refused now calls e t answers (Some q) is claim each =
    let found = subject_is e t.requests q is in
    let pl = granted refused q.1 (plan m (held_by e t) now e q.1) in
    let more = gains p now q.0 q.1 pl t answers in
    let all = gained p m (held_by e t) now calls e q.0 q.1.deadline q.1.stage pl claim (each q.0 q.1 found.0) (granted_why m (held_by e t) refused now e q.0 q.1 found.1) in
    omega arith

-- what the open requests rest on
rests : (needs : Needs) (wait : ℕ) (calls : List Call) → let w = history (fresh needs wait) calls in Each (λ n r. Rests w.state.needs calls n r.stage) w.state.table
rests needs wait calls q r found = let h = sound needs wait calls in subst (λ m. Rests m calls q r.stage) (sym h.needed) (h.each q r found).1

writing_come : (p : Use → Bool) (s : State) (w : World) (b : Bool) → NumbersRise s.table → find s.next s.table.requests ≡ None → accepted p (cond {A = World} b (let_in s w) (at_state s w)) + writing p (cond {A = World} b (let_in s w) (at_state s w)).state.table.requests ≡ accepted p w + writing p s.table.requests
writing_come p s w false up none = refl
writing_come p s w true up none =
    let entered = sum_by-insert_entry (λ (r : Request). writes p r.stage) nat_cmp_total s.table.requests s.next (record { deadline = deadline s; stage = Judging }) up in
    let new = ap (λ (o : Option Request). unwrap_or (option_map (λ (r : Request). writes p r.stage) o) 0) none in
    omega arith

same_answers : (s : State) (w : World) (b : Bool) → (cond {A = World} b (let_in s w) (at_state s w)).answers ≡ w.answers
same_answers s w true = refl
same_answers s w false = refl

accepted_or_writing : (needs : Needs) (wait : ℕ) (calls : List Call) (p : Use → Bool) → (needs ≡ Claim → ⊥) → let w = history (fresh needs wait) calls in accepted p w + writing p w.state.table.requests ≤ told (is_judged p) calls
accepted_or_writing needs wait [] p free = omega arith
accepted_or_writing needs wait (Come up refused ∷ calls) p free =
    let w = history (fresh needs wait) calls in
    let s = at_moment w.state up in
    let h = sound needs wait calls in
    let same = writing_come p s w (has_number s && not refused) h.order.numbers (next_is_new needs calls w h) in
    let before = accepted_or_writing needs wait calls p free in
    omega arith
accepted_or_writing needs wait (Hear up e refused ∷ calls) p free =
    let w = history (fresh needs wait) calls in
    let s = at_moment w.state up in
    let step = judged_heard p s.needs refused s.now calls e s.table w.answers (subject e s.table.requests) refl (λ is. free (sym (sound needs wait calls).needed ∙ is)) (rests needs wait calls) in
    let before = accepted_or_writing needs wait calls p free in
    omega arith

pub accepted_as_judged : AcceptedAsJudged
accepted_as_judged wait calls p = (fewer Nothing (λ is. cc), fewer Write (λ is. cc))
  where
    fewer : (needs : Needs) → (needs ≡ Claim → ⊥) → accepted p (history (fresh needs wait) calls) ≤ told (is_judged p) calls
    fewer needs free = let all = accepted_or_writing needs wait calls p free in omega arith

pub accepted_as_found : AcceptedAsFound
accepted_as_found wait [] p = omega arith
accepted_as_found wait (Come up refused ∷ calls) p =
    let w = history (fresh Claim wait) calls in
    let s = at_moment w.state up in
    let same = ap (count (λ (a : Answered). accepts p a.verdict)) (same_answers s w (has_number s && not refused)) in
    let before = accepted_as_found wait calls p in
    omega arith
accepted_as_found wait (Hear up e refused ∷ calls) p =
    let w = history (fresh Claim wait) calls in
    let s = at_moment w.state up in
    let step = found_heard p s.needs refused s.now calls e s.table w.answers (subject e s.table.requests) refl (sound Claim wait calls).needed (rests Claim wait calls) in
    let before = accepted_as_found wait calls p in
    omega arith
