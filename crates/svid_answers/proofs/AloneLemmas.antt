-- No token is answered 200 twice by a member in mode once.
use Rattle.std.proofs.Common.{◌≡◌, ◌⊎◌, inl, inr, ℕ, ◌+◌, ◌<◌, ◌≤◌, Bool, true, false, List, [], ◌∷◌, refl, sym, ◌∙◌, ap, subst, arith, Option, Some, None, count_by}
use Rattle.std.proofs.lemmas.Bool.{cond_both, true≢false}
use Rattle.svid_replay.specs.declared.token_use.Use.{Use}
use Rattle.svid_replay.specs.Buckets.{raised_to}
use Rattle.svid_replay.specs.Records as records
use Rattle.svid_replay.specs.Uses.{has_use_of}
use Rattle.svid_log.proofs.StepsLemmas.{held_is_used, joined_has}
use Rattle.svid_requests.specs.declared.needs.Needs.{Needs}
use Rattle.svid_requests.specs.declared.judgment.Judgment.TheVariants.{Passes}
use Rattle.svid_requests.specs.declared.verdict.Verdict.{Verdict}
use Rattle.svid_requests.specs.declared.verdict.Verdict.TheVariants.{NoMemory}
use Rattle.svid_requests.specs.declared.request.Request.{Request}
use Rattle.svid_requests.specs.declared.event.Event as requests
use Rattle.svid_requests.specs.declared.event.Event.TheVariants.{Judged}
use Rattle.svid_requests.specs.declared.stage.Stage.{Stage}
use Rattle.svid_requests.specs.declared.stage.Stage.TheVariants.{Judging, Writing, Claiming, Behind, Again}
use Rattle.svid_requests.specs.declared.plan.Plan.{Plan}
use Rattle.svid_requests.specs.declared.plan.Plan.TheVariants.{Stay, Go, Part}
use Rattle.svid_requests.specs.Plans.{plan}
use Rattle.svid_requests.specs.Tables.{State, Table, at_moment, came, deed_by, deed_of, granted, heard, heard_deed, held_by, left_by, subject}
use Rattle.svid_member.specs.declared.mode.Mode.TheVariants.{Once}
use Rattle.svid_member.specs.Modes.{needs_of}
use Rattle.svid_answers.specs.Alone.{AreAllowed, Event, Life, TokensAreAnsweredOnceHere, WasGiven, answered, approved, given_by, happens, history}
use Rattle.svid_answers.specs.Alone.Event.{Join, Come, Judges, Hear, Start}
use Rattle.svid_answers.specs.Promises.{accepts, is_token}
use Rattle.svid_answers.specs.Records.{Knows}
use Rattle.svid_answers.proofs.FitsLemmas.{AreFit, fit_begun, fit_came, fit_heard, fit_moment, fit_subject, granted_holds, subject_found}
use Rattle.svid_answers.proofs.GroupLemmas.{accepted_use, counted, token_parts}
use Rattle.svid_answers.proofs.RecordsLemmas.{knows_join}
use Rattle.svid_answers.proofs.WritesLemmas.{IsCovered, approves, came_writes, followed_writes, gain, one_if, plan_covered, writing}

-- Its requests are those of mode once.
abbrev pub IsOnce : State → Type 0
IsOnce s = (kept : Bool) × AreFit (needs_of Once kept) s

pub once_requests : (events : List Event) → IsOnce (history events).requests
once_requests [] = (true, fit_begun (needs_of Once true) 0)
once_requests (Join b ∷ events) = once_requests events
once_requests (Come up refused ∷ events) =
    let h = once_requests events in
    let s = at_moment (history events).requests up in
    let moved = fit_moment (needs_of Once h.0) (history events).requests up h.1 in
    (h.0, cond_both refused s (came s) (AreFit (needs_of Once h.0)) (λ _. moved) (λ _. fit_came (needs_of Once h.0) s moved))
once_requests (Judges now up n refused u ∷ events) =
    let h = once_requests events in
    let s = (history events).requests in
    (h.0, fit_heard (needs_of Once h.0) refused (at_moment s up) (Judged n (Passes u)) (fit_moment (needs_of Once h.0) s up h.1))
once_requests (Hear up refused e ∷ events) =
    let h = once_requests events in
    let s = (history events).requests in
    (h.0, fit_heard (needs_of Once h.0) refused (at_moment s up) e (fit_moment (needs_of Once h.0) s up h.1))
once_requests (Start read kept wait ∷ events) = (kept, fit_begun (needs_of Once kept) wait)

-- How many are answered, or on their way to the disk.

module _ (p : Use → Bool) where
  abbrev sure : List Verdict → State → ℕ
  sure given s = count_by (accepts p) given + writing p s.table.requests

  given_at : (n : ℕ) (r : Request) (g : Stage) (t : Table) (given : List Verdict) → count_by (accepts p) (given_by (deed_of n r (Go g) t) given) ≡ count_by (accepts p) given
  given_at n r Judging t given = refl
  given_at n r (Writing u) t given = refl
  given_at n r (Claiming u) t given = refl
  given_at n r (Behind u) t given = refl
  given_at n r (Again u) t given = refl

  given_of : (n : ℕ) (r : Request) (pl : Plan) (t : Table) (given : List Verdict) → count_by (accepts p) (given_by (deed_of n r pl t) given) ≡ gain p pl + count_by (accepts p) given
  given_of n r Stay t given = omega arith
  given_of n r (Go g) t given = let same = given_at n r g t given in omega arith
  given_of n r (Part verdict) t given = counted (accepts p) verdict given (accepts p verdict) refl

  sure_by : (kept refused : Bool) (s : State) (e : requests.Event) (given : List Verdict) (o : Option (ℕ × Request)) → subject e s.table.requests ≡ o → AreFit (needs_of Once kept) s
      → count_by (accepts p) (given_by (deed_by s.needs refused s.now e s.table o) given) + writing p (left_by s.needs refused s.now e s.table o).requests ≤ approves p (approved e) + sure given s
  sure_by kept refused s e given None is h = omega arith
  sure_by kept refused s e given (Some q) is h =
      let pl = plan s.needs (held_by e s.table) s.now e q.1 in
      let done = granted refused q.1 pl in
      let gained = given_of q.0 q.1 done s.table given in
      let left = followed_writes p q.0 q.1 done s.table (subject_found e s.table.requests q is) in
      let covered = granted_holds (IsCovered p q.1.stage (approves p (approved e))) refused q.1 pl
      (subst (λ (x : Needs). IsCovered p q.1.stage (approves p (approved e)) (plan x (held_by e s.table) s.now e q.1)) (sym h.needs_is) (plan_covered p kept (held_by e s.table) s.now e q.1 (fit_subject (needs_of Once kept) s e q is h)))
      (none_covered q.1.stage (approves p (approved e))) in
      omega arith
    where
      none_covered : (was : Stage) (more : ℕ) → IsCovered p was more (Part NoMemory)
      none_covered was more = omega arith

  sure_heard : (refused : Bool) (s : State) (e : requests.Event) (given : List Verdict) → IsOnce s → sure (given_by (heard_deed refused s e) given) (heard refused s e) ≤ approves p (approved e) + sure given s
  sure_heard refused s e given h = sure_by h.0 refused s e given (subject e s.table.requests) refl h.1

-- Of one token.

-- a use of it that the record knows
record IsKnown (key : List ℕ) (exp : ℕ) (x : records.State) : Type 0 where
  u : Use
  key_is : u.key ≡ key
  exp_is : u.exp ≡ exp
  known : Knows x u

module _ (key : List ℕ) (exp : ℕ) where
  abbrev test : Use → Bool
  test = is_token key exp

  -- none is answered or on its way, or one is, and the record knows its use
  abbrev AtMostOne : Life → Type 0
  AtMostOne w = (sure test w.given w.requests ≤ 0) ⊎ ((sure test w.given w.requests ≤ 1) × IsKnown key exp w.held)

  known_joined : (x b : records.State) → IsKnown key exp x → IsKnown key exp (records.join x b)
  known_joined x b h = record { u = h.u; key_is = h.key_is; exp_is = h.exp_is; known = knows_join x b h.u h.known }

  one_kept : (w y : Life) → sure test y.given y.requests ≤ sure test w.given w.requests → (IsKnown key exp w.held → IsKnown key exp y.held) → AtMostOne w → AtMostOne y
  one_kept w y few knows (inl none) = inl (omega arith)
  one_kept w y few knows (inr one) = let at_most = one.0 in inr (omega arith, knows one.1)

  -- a use that is known is not accepted again
  known_is_refused : (x : records.State) (d u : Use) → Knows x d → d.key ≡ u.key → d.exp ≡ u.exp → x.moment < u.exp → has_use_of x.uses u.key ≡ false → ⊥
  known_is_refused x d u (inl has) at same live unused = true≢false (sym (held_is_used x.uses d u.key has at) ∙ unused)
  known_is_refused x d u (inr past) at same live unused = omega arith

  one_judged : (w : Life) (now up n : ℕ) (refused : Bool) (u : Use) (b : Bool) → test u ≡ b → (raised_to w.held now).moment < u.exp → has_use_of (raised_to w.held now).uses u.key ≡ false
      → let y = happens w (Judges now up n refused u) in sure test y.given y.requests ≤ one_if b + sure test w.given w.requests → AtMostOne w → AtMostOne y
  one_judged w now up n refused u true is live unused few (inl none) =
      let token = token_parts key exp u is in
      inr (omega arith, record { u = u; key_is = token.0; exp_is = token.1; known = inl (joined_has (raised_to w.held now) u live) })
  one_judged w now up n refused u true is live unused few (inr one) =
      let token = token_parts key exp u is in
      let x = known_joined w.held (records.state_of now []) one.1 in
      absurd (known_is_refused (raised_to w.held now) x.u u x.known (x.key_is ∙ sym token.0) (x.exp_is ∙ sym token.1) live unused)
  one_judged w now up n refused u false is live unused few before =
      one_kept w (happens w (Judges now up n refused u)) (omega (arith, few))
      (λ h. known_joined (raised_to w.held now) (records.state_of (raised_to w.held now).moment (u ∷ [])) (known_joined w.held (records.state_of now []) h)) before

  -- an answer that accepts the token
  record IsAmong (given : List Verdict) : Type 0 where
    u : Use
    key_is : u.key ≡ key
    exp_is : u.exp ≡ exp
    was : WasGiven given u

  among_first : (v : Verdict) (given : List Verdict) → accepts test v ≡ true → IsAmong (v ∷ given)
  among_first v given is = let u = accepted_use test v is in let token = token_parts key exp u.0 u.2 in record { u = u.0; key_is = token.0; exp_is = token.1; was = inl u.1 }

  among_more : (v : Verdict) (given : List Verdict) → (answered key exp given ≤ 0) ⊎ IsAmong given → accepts test v ≡ false → (answered key exp (v ∷ given) ≤ 0) ⊎ IsAmong (v ∷ given)
  among_more v given (inl none) is = let all = counted (accepts test) v given false is in inl (omega arith)
  among_more v given (inr h) is = inr (record { u = h.u; key_is = h.key_is; exp_is = h.exp_is; was = inr h.was })

  none_or_among : (given : List Verdict) → (answered key exp given ≤ 0) ⊎ IsAmong given
  none_or_among [] = inl (omega arith)
  none_or_among (v ∷ given) = by (accepts test v) refl (none_or_among given)
    where
      by : (b : Bool) → accepts test v ≡ b → (answered key exp given ≤ 0) ⊎ IsAmong given → (answered key exp (v ∷ given) ≤ 0) ⊎ IsAmong (v ∷ given)
      by true is rest = inr (among_first v given is)
      by false is rest = among_more v given rest is

  one_started : (w : Life) (read : records.State) (kept : Bool) (wait : ℕ) → ((u : Use) → WasGiven w.given u → Knows read u) → (answered key exp w.given ≤ 0) ⊎ IsAmong w.given → answered key exp w.given ≤ 1 → AtMostOne (happens w (Start read kept wait))
  one_started w read kept wait knows (inl none) few = inl (omega arith)
  one_started w read kept wait knows (inr among) few = inr (omega arith, record { u = among.u; key_is = among.key_is; exp_is = among.exp_is; known = knows among.u among.was })

  few_given : (w : Life) → AtMostOne w → answered key exp w.given ≤ 1
  few_given w (inl none) = omega arith
  few_given w (inr one) = let at_most = one.0 in omega arith

  once_moment : (events : List Event) (up : ℕ) → IsOnce (at_moment (history events).requests up)
  once_moment events up = let h = once_requests events in (h.0, fit_moment (needs_of Once h.0) (history events).requests up h.1)

  always_one : (events : List Event) → AreAllowed events → AtMostOne (history events)
  always_one [] allowed = inl (omega arith)
  always_one (Join b ∷ events) allowed = let w = history events in one_kept w (happens w (Join b)) (omega arith) (known_joined w.held b) (always_one events allowed.0)
  always_one (Come up refused ∷ events) allowed =
      let w = history events in
      let s = at_moment w.requests up in
      let few = cond_both refused s (came s) (λ (x : State). writing test x.table.requests ≤ writing test s.table.requests) (λ _. itself (writing test s.table.requests)) (λ _. came_writes test s) in
      one_kept w (happens w (Come up refused)) (omega (arith, few)) (λ h. h) (always_one events allowed.0)
    where
      itself : (n : ℕ) → n ≤ n
      itself n = omega arith
  always_one (Judges now up n refused u ∷ events) allowed =
      let w = history events in
      one_judged w now up n refused u (test u) refl allowed.1.0 allowed.1.1 (sure_heard test refused (at_moment w.requests up) (Judged n (Passes u)) w.given (once_moment events up)) (always_one events allowed.0)
  always_one (Hear up refused e ∷ events) allowed =
      let w = history events in
      let few = sure_heard test refused (at_moment w.requests up) e w.given (once_moment events up) in
      let none : approves test (approved e) ≡ 0 = ap (approves test) allowed.1 in
      one_kept w (happens w (Hear up refused e)) (omega (arith, few, none)) (λ h. h) (always_one events allowed.0)
  always_one (Start read kept wait ∷ events) allowed =
      let w = history events in
      one_started w read kept wait allowed.1 (none_or_among w.given) (few_given w (always_one events allowed.0))

pub tokens_are_answered_once_here : TokensAreAnsweredOnceHere
tokens_are_answered_once_here events key exp allowed = few_given key exp (history events) (always_one key exp events allowed)
