-- How many requests have a use on its way to the disk.
use Rattle.std.proofs.Common.{◌≡◌, ℕ, ◌+◌, ◌≤◌, Bool, true, false, cond, List, [], ◌∷◌, refl, sym, ap, ◌∙◌, arith, Option, Some, None, sum_by, Ordering, Less, Equal, Greater, unwrap_or, option_map}
use Rattle.std.specs.Ordering.{match_ordering, nat_cmp}
use Rattle.std.specs.Map.{values_of}
use Rattle.std.specs.BTreeMap.{insert_entry, is_at}
use Rattle.std.proofs.lemmas.Bool.{cond_both}
use Rattle.std.proofs.lemmas.List.Sums.{sum_by-cons}
use Rattle.std.proofs.lemmas.Map.Entries.{sum_by-remove_entry, sum_by-set_value}
use Rattle.svid_replay.specs.declared.token_use.Use.{Use}
use Rattle.svid_requests.specs.declared.judgment.Judgment.{Judgment}
use Rattle.svid_requests.specs.declared.judgment.Judgment.TheVariants.{Passes, Holds, Fails}
use Rattle.svid_requests.specs.declared.verdict.Verdict.TheVariants.{Late}
use Rattle.svid_requests.specs.declared.request.Request.{Request}
use Rattle.svid_requests.specs.declared.event.Event.{Event}
use Rattle.svid_requests.specs.declared.event.Event.TheVariants.{Judged, Wrote, Send, Found, Leave, Overdue}
use Rattle.svid_requests.specs.declared.stage.Stage.{Stage}
use Rattle.svid_requests.specs.declared.stage.Stage.TheVariants.{Judging, Writing, Claiming, Behind, Again}
use Rattle.svid_requests.specs.declared.plan.Plan.{Plan}
use Rattle.svid_requests.specs.declared.plan.Plan.TheVariants.{Stay, Go, Part}
use Rattle.svid_requests.specs.Lines.{first_of}
use Rattle.svid_requests.specs.Plans.{after_answer, after_judgment, after_leave, after_send, after_write, judged, plan, written}
use Rattle.svid_requests.specs.Tables.{State, Table, at_stage, came, deadline, entered, find, followed, hand_to, has_number, joined, left_at, restaged, turn, turned, without}
use Rattle.svid_member.specs.declared.mode.Mode.TheVariants.{Once}
use Rattle.svid_member.specs.Modes.{needs_of}
use Rattle.svid_answers.specs.Alone.{approved}
use Rattle.svid_answers.specs.Group.{passing}
use Rattle.svid_answers.specs.Promises.{accepts}
use Rattle.svid_answers.proofs.FitsLemmas.{Fits, in_time_holds, joined_same}

abbrev pub one_if : Bool → ℕ
one_if b = cond b 1 0

-- a use that passes a test is on its way to the disk
abbrev pub writes : (Use → Bool) → Stage → Bool
writes p (Writing u) = p u
writes p _ = false

abbrev weight : (Use → Bool) → Request → ℕ
weight p r = one_if (writes p r.stage)

-- how many are
abbrev pub writing : (Use → Bool) → List (ℕ × Request) → ℕ
writing p requests = sum_by (weight p) (values_of requests)

turned_writes : (p : Use → Bool) (g : Stage) → writes p (turned g) ≡ writes p g
turned_writes p Judging = refl
turned_writes p (Writing u) = refl
turned_writes p (Claiming u) = refl
turned_writes p (Behind u) = refl
turned_writes p (Again u) = refl

module _ (p : Use → Bool) where
  restaged_writes : (n : ℕ) (r : Request) (g : Stage) (requests : List (ℕ × Request)) → find n requests ≡ Some r → writing p (restaged n r g requests) + one_if (writes p r.stage) ≡ writing p requests + one_if (writes p g)
  restaged_writes n r g requests is = sum_by-set_value (weight p) (is_at (nat_cmp n)) requests r (at_stage g r) is

  turn_writes : (n : ℕ) (o : Option Request) (requests : List (ℕ × Request)) → find n requests ≡ o → writing p (turn n o requests) ≡ writing p requests
  turn_writes n None requests is = refl
  turn_writes n (Some r) requests is =
      let all = restaged_writes n r (turned r.stage) requests is in
      let same : one_if (writes p (turned r.stage)) ≡ one_if (writes p r.stage) = ap one_if (turned_writes p r.stage) in
      omega arith

  handed_writes : (key : List ℕ) (o : Option ℕ) (t : Table) → writing p (hand_to key o t).requests ≡ writing p t.requests
  handed_writes key None t = refl
  handed_writes key (Some w) t = turn_writes w (find w t.requests) t.requests refl

  left_writes : (n : ℕ) (g : Stage) (t : Table) → writing p (left_at n g t).requests ≡ writing p t.requests
  left_writes n Judging t = refl
  left_writes n (Writing u) t = refl
  left_writes n (Claiming u) t = handed_writes u.key (first_of u.key t.lines) t
  left_writes n (Behind u) t = refl
  left_writes n (Again u) t = handed_writes u.key (first_of u.key t.lines) t

  without_writes : (n : ℕ) (r : Request) (t : Table) → find n t.requests ≡ Some r → writing p (without n t).requests + one_if (writes p r.stage) ≡ writing p t.requests
  without_writes n r t is =
      ap (λ (o : Option Request). writing p (without n t).requests + unwrap_or (option_map (weight p) o) 0) (sym is) ∙ sum_by-remove_entry (weight p) (is_at (nat_cmp n)) t.requests

  -- what it holds after a plan
  abbrev pub held : Stage → Plan → ℕ
  held was Stay = one_if (writes p was)
  held was (Go g) = one_if (writes p g)
  held was (Part v) = 0

  -- what a plan answers
  abbrev pub gain : Plan → ℕ
  gain (Part v) = one_if (accepts p v)
  gain _ = 0

  pub followed_writes : (n : ℕ) (r : Request) (pl : Plan) (t : Table) → find n t.requests ≡ Some r → writing p (followed n r pl t).requests + one_if (writes p r.stage) ≡ writing p t.requests + held r.stage pl
  followed_writes n r Stay t is = refl
  followed_writes n r (Go g) t is =
      let x = joined n r.stage g t in
      restaged_writes n r g x.requests (ap (find n) (joined_same n r.stage g t) ∙ is) ∙ ap (λ (rs : List (ℕ × Request)). writing p rs + one_if (writes p g)) (joined_same n r.stage g t)
  followed_writes n r (Part v) t is =
      let left = left_writes n r.stage (without n t) in
      let all = without_writes n r t is in
      omega arith

  -- an insertion adds no more than what is inserted
  insert_writes : (requests : List (ℕ × Request)) (n : ℕ) (r : Request) → writing p (insert_entry nat_cmp requests n r) ≤ writing p requests + weight p r
  insert_writes [] n r = omega arith
  insert_writes (e ∷ es) n r = by (nat_cmp n e.0) (insert_writes es n r)
    where
      by : (o : Ordering) → writing p (insert_entry nat_cmp es n r) ≤ writing p es + weight p r → writing p (match_ordering o ((n, r) ∷ e ∷ es) ((e.0, r) ∷ es) (e ∷ insert_entry nat_cmp es n r)) ≤ writing p (e ∷ es) + weight p r
      by Less rest = let a = sum_by-cons (weight p) r (values_of (e ∷ es)) in omega arith
      by Equal rest = let a = sum_by-cons (weight p) r (values_of es) in let b = sum_by-cons (weight p) e.1 (values_of es) in omega arith
      by Greater rest = let a = sum_by-cons (weight p) e.1 (values_of (insert_entry nat_cmp es n r)) in let b = sum_by-cons (weight p) e.1 (values_of es) in omega arith

  pub came_writes : (s : State) → writing p (came s).table.requests ≤ writing p s.table.requests
  came_writes s = cond_both (has_number s) (entered s) s (λ (x : State). writing p x.table.requests ≤ writing p s.table.requests)
      (λ _. let all = insert_writes s.table.requests s.next (record { deadline = deadline s; stage = Judging }) in omega arith) (λ _. omega arith)

  -- A plan answers and holds no more than its request held, and what a validator accepted now.

  abbrev pub approves : Option Use → ℕ
  approves None = 0
  approves (Some u) = one_if (p u)

  abbrev pub IsCovered : Stage → ℕ → Plan → Type 0
  IsCovered was more pl = gain pl + held was pl ≤ one_if (writes p was) + more

  judged_covered : (kept : Bool) (n : ℕ) (other : Bool) (j : Judgment) → IsCovered Judging (approves (approved (Judged n j))) (judged (needs_of Once kept) other j)
  judged_covered true n other (Passes u) = omega arith
  judged_covered false n other (Passes u) = omega arith
  judged_covered kept n other (Holds u) = omega arith
  judged_covered kept n other (Fails why) = omega arith

  late_covered : (was : Stage) (more : ℕ) → IsCovered was more (Part Late)
  late_covered was more = omega arith

  stay_covered : (was : Stage) (more : ℕ) → IsCovered was more Stay
  stay_covered was more = omega arith

  -- where no claim is needed, nothing waits for one
  pub no_claim : (kept : Bool) (u : Use) → Fits (needs_of Once kept) (Claiming u) → ⊥
  no_claim true u h = h
  no_claim false u h = h

  judgment_covered : (kept : Bool) (n : ℕ) (other : Bool) (now : ℕ) (j : Judgment) (r : Request) (g : Stage) → Fits (needs_of Once kept) g → IsCovered g (approves (approved (Judged n j))) (after_judgment (needs_of Once kept) other now j r g)
  judgment_covered kept n other now j r Judging h = in_time_holds (IsCovered Judging (approves (passing j))) now r (judged (needs_of Once kept) other j) (late_covered Judging (approves (passing j))) (judged_covered kept n other j)
  judgment_covered kept n other now j r (Writing u) h = stay_covered (Writing u) (approves (passing j))
  judgment_covered kept n other now j r (Claiming u) h = stay_covered (Claiming u) (approves (passing j))
  judgment_covered kept n other now j r (Behind u) h = stay_covered (Behind u) (approves (passing j))
  judgment_covered kept n other now j r (Again u) h = absurd (no_claim kept u h)

  written_covered : (ok : Bool) (u : Use) → IsCovered (Writing u) 0 (written ok u)
  written_covered true u = omega arith
  written_covered false u = omega arith

  write_covered : (now : ℕ) (ok : Bool) (r : Request) (g : Stage) → IsCovered g 0 (after_write now ok r g)
  write_covered now ok r Judging = omega arith
  write_covered now ok r (Writing u) = in_time_holds (IsCovered (Writing u) 0) now r (written ok u) (late_covered (Writing u) 0) (written_covered ok u)
  write_covered now ok r (Claiming u) = omega arith
  write_covered now ok r (Behind u) = omega arith
  write_covered now ok r (Again u) = omega arith

  send_covered : (kept : Bool) (now : ℕ) (r : Request) (g : Stage) → Fits (needs_of Once kept) g → IsCovered g 0 (after_send now r g)
  send_covered kept now r Judging h = omega arith
  send_covered kept now r (Writing u) h = stay_covered (Writing u) 0
  send_covered kept now r (Claiming u) h = absurd (no_claim kept u h)
  send_covered kept now r (Behind u) h = omega arith
  send_covered kept now r (Again u) h = omega arith

  answer_covered : (kept : Bool) (now : ℕ) (j : Judgment) (r : Request) (g : Stage) → Fits (needs_of Once kept) g → IsCovered g 0 (after_answer now j r g)
  answer_covered kept now j r Judging h = omega arith
  answer_covered kept now j r (Writing u) h = stay_covered (Writing u) 0
  answer_covered kept now j r (Claiming u) h = absurd (no_claim kept u h)
  answer_covered kept now j r (Behind u) h = omega arith
  answer_covered kept now j r (Again u) h = omega arith

  leave_covered : (g : Stage) → IsCovered g 0 (after_leave g)
  leave_covered Judging = omega arith
  leave_covered (Writing u) = stay_covered (Writing u) 0
  leave_covered (Claiming u) = omega arith
  leave_covered (Behind u) = omega arith
  leave_covered (Again u) = omega arith

  pub plan_covered : (kept other : Bool) (now : ℕ) (e : Event) (r : Request) → Fits (needs_of Once kept) r.stage → IsCovered r.stage (approves (approved e)) (plan (needs_of Once kept) other now e r)
  plan_covered kept other now (Judged n j) r h = judgment_covered kept n other now j r r.stage h
  plan_covered kept other now (Wrote n ok) r h = write_covered now ok r r.stage
  plan_covered kept other now (Send n) r h = send_covered kept now r r.stage h
  plan_covered kept other now (Found n j) r h = answer_covered kept now j r r.stage h
  plan_covered kept other now (Leave n) r h = leave_covered r.stage
  plan_covered kept other now Overdue r h = in_time_holds (IsCovered r.stage 0) now r Stay (late_covered r.stage 0) (stay_covered r.stage 0)
