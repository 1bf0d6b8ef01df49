-- The calls of a group's members are events of its history, all of them.
use Rattle.std.proofs.Common.{◌≡◌, ◌≢◌, inl, inr, ◌≤◌, ◌++◌, ℕ, Bool, true, false, cond, List, [], ◌∷◌, refl, sym, ap, ◌∙◌, subst, map, count_by, Option, Some, None}
use Rattle.std.specs.Prelude.{◌+◌, ◌==◌, if◌then◌else◌, slice_get}
use Rattle.std.specs.List.{AllByRecursion, fold}
use Rattle.std.proofs.lemmas.Bool.{cond-false, eqb-false, eqb-true}
use Rattle.std.proofs.lemmas.Option.{none-some}
use Rattle.svid_replay.specs.Buckets.{raised_to}
use Rattle.svid_replay.specs.Records as records
use Rattle.svid_claims.specs.Calls.{found_by}
use Rattle.svid_claims.specs.Expiries.{PutsTelling}
use Rattle.svid_claims.specs.Groups.{Answer, Put, Remove, End, Tick, Accept, Tell, Restart, Store, Terms, new_member}
use Rattle.svid_claims.specs.Groups as claims
use Rattle.svid_claims.specs.Owners.{owner_of_caller}
use Rattle.svid_check.specs.Said.{Said}
use Rattle.svid_check.specs.Setting.{Held, Setting}
use Rattle.svid_requests.specs.declared.verdict.Verdict.{Verdict}
use Rattle.svid_requests.specs.declared.event.Event.TheVariants.{Found}
use Rattle.svid_requests.specs.declared.deed.Deed.{Deed}
use Rattle.svid_requests.specs.declared.deed.Deed.TheVariants as deed
use Rattle.svid_replay.specs.declared.token_use.Use.{Use}
use Rattle.svid_requests.specs.declared.needs.Needs.TheVariants.{Claim}
use Rattle.svid_requests.specs.Tables.{State, at_moment, begun, heard_deed}
use Rattle.svid_member.specs.declared.claimed.Claimed.{Claimed}
use Rattle.svid_member.specs.declared.mode.Mode.{Mode}
use Rattle.svid_member.specs.declared.mode.Mode.TheVariants.{Strict, Bound}
use Rattle.svid_member.specs.Claiming.{Finds, awaited, owner_by, owner_for}
use Rattle.svid_member.specs.Judging.{judged_by}
use Rattle.svid_member.specs.Members.{MemberData, with_readiness, with_requests}
use Rattle.svid_member.specs.Modes.{adds_at_judgment, is_bound}
use Rattle.svid_member.specs.declared.readiness.Readiness.{Readiness}
use Rattle.svid_answers.specs.Calls.{AreEvents, IsClaimed, IsOfStores, Mirrors, life_after, mode_of}
use Rattle.svid_answers.specs.Group.{AreAllowed, Event, Given, comes, history, in_claims}
use Rattle.svid_answers.specs.Records.{member_of}
use Rattle.svid_answers.specs.Group.Event.{Group}
use Rattle.svid_answers.specs.Promises.{IsFounded, accepts, is_token}
use Rattle.svid_answers.specs.Runs.{Call, Claims, Does, IsAnsweredTo, Now, Run, RunsAnswerCallers, RunsAnswerOnce, RunsAnswerOneCaller, changed, given_by, stores_of}
use Rattle.svid_answers.specs.Runs.Call.{InStore, Find, Judge, Hear, Come, Join, Know, Begin}
use Rattle.svid_answers.proofs.CallsLemmas.{begins_are_events, comes_are_events, hears_are_events, joins_are_events, judges_are_events, stores_keep_members, tells_more}
use Rattle.svid_answers.proofs.GrantsLemmas.{Grants, OnDeed, weaker_on}
use Rattle.svid_answers.proofs.GroupLemmas.{answered_is_found, deed_grants, tokens_are_answered_once, tokens_are_answered_to_one_owner}
use Rattle.svid_answers.proofs.LooksLemmas.{finds_are_events, finds_look}
use Rattle.svid_answers.proofs.ResponsesLemmas.{AreOf, Owns, claim_owns, deed_answers, deed_founded, have_callers, owner_of_answered, same_verdicts}

counted_from : (p : Verdict → Bool) (n : ℕ) (given : List Given) → fold (λ k v. k + cond (p v) 1 0) n (map (λ g. g.verdict) given) ≡ fold (λ k g. k + cond (p g.verdict) 1 0) n given
counted_from p n [] = refl
counted_from p n (g ∷ given) = counted_from p (n + cond (p g.verdict) 1 0) given

counted : (p : Verdict → Bool) (given : List Given) → count_by p (map (λ g. g.verdict) given) ≡ count_by (λ g. p g.verdict) given
counted p given = counted_from p 0 given

module _ (V : Type 0) (t : Terms) (told : List ℕ → ℕ) where
  -- what a run left is what an allowed history leaves
  record Reached (b : Now) : Type 0 where
    pub events : List Event
    pub allowed : AreAllowed t events
    pub puts : AllByRecursion (PutsTelling told) (in_claims events)
    pub stores : (history t events).claims.stores ≡ b.stores
    pub answers : (history t events).claims.answers ≡ b.answers
    pub lives : (n : ℕ) → ((history t events).claims.members n).life ≡ b.lives n
    pub mirrors : (n : ℕ) → Mirrors t n (history t events) (b.held n) (b.members n)
    pub given : AreOf t (history t events).given b.given

  -- of member v it is said, and of each other
  each : (P : (n : ℕ) → records.State → MemberData → Type 0) (a : Now) (v : ℕ) (x : records.State) (m : MemberData)
      → P v x m → ((n : ℕ) → n ≢ v → P n (a.held n) (a.members n)) → (n : ℕ) → P n (changed a.held v x n) (changed a.members v m n)
  each P a v x m own other n = by (n == v) refl where
    by : (b : Bool) → (n == v) ≡ b → P n (if b then x else a.held n) (if b then m else a.members n)
    by true e = subst (λ k. P k x m) (sym (eqb-true n v e)) own
    by false e = other n (eqb-false n v e)

  -- a call on member v was done by events, and what its deed accepts is for the caller of the claim
  claims_on : (a b : Now) (v : ℕ) (born : Bool) (claimed caller : Option (List ℕ)) (x : records.State) (m : MemberData) (d : Deed) (r : Reached a) → AreEvents t born r.events v claimed x m d
      → ((o : List ℕ) → claimed ≡ Some o → OnDeed (Owns t (Some o) caller) d)
      → b ≡ record { stores = a.stores; answers = a.answers; lives = λ n. life_after born v n (a.lives n); held = changed a.held v x; members = changed a.members v m; given = given_by caller d a.given } → Reached b
  claims_on a b v born claimed caller x m d r e owns is =
      let events = e.more ++ r.events in
      let found = subst (AllByRecursion (IsFounded t (history t events).claims)) e.given (answered_is_found t events e.allowed) in
      subst Reached (sym is) (record {
        events = events;
        allowed = e.allowed;
        puts = e.puts told r.puts;
        stores = e.stores ∙ r.stores;
        answers = e.answers ∙ r.answers;
        lives = λ n. e.lives n ∙ ap (life_after born v n) (r.lives n);
        mirrors = each (λ n y k. Mirrors t n (history t events) y k) a v x m e.mirrors (λ n other. e.others n (a.held n) (a.members n) other (r.mirrors n));
        given = subst (λ (answers : List Given). AreOf t answers (given_by caller d a.given)) (sym e.given) (deed_answers t v e.owner caller d (history t r.events).given a.given
            (claim_owns t e.owner claimed caller d e.owner_is owns (deed_founded t (history t events).claims v e.owner d (history t r.events).given found)) r.given);
      })

  -- so it is of a call without a claim
  on : (a b : Now) (v : ℕ) (born : Bool) (x : records.State) (m : MemberData) (d : Deed) (r : Reached a) → AreEvents t born r.events v None x m d
      → b ≡ record { stores = a.stores; answers = a.answers; lives = λ n. life_after born v n (a.lives n); held = changed a.held v x; members = changed a.members v m; given = given_by None d a.given } → Reached b
  on a b v born x m d r e is = claims_on a b v born None None x m d r e (λ o claimed. absurd (none-some o claimed)) is

  -- What happens in a store is the same whoever the members are.
  store_alike : (w u : claims.World) (e : claims.Event) → IsOfStores e → w.stores ≡ u.stores → w.answers ≡ u.answers
      → ((claims.happens t w e).stores ≡ (claims.happens t u e).stores) × ((claims.happens t w e).answers ≡ (claims.happens t u e).answers)
  store_alike w u (Put key owner exp time) is stores answers = (
    ap (λ (s : ℕ → Store). (claims.happens t (record { members = w.members; stores = s; answers = w.answers }) (Put key owner exp time)).stores) stores,
    ap (λ (s : ℕ → Store). (claims.happens t (record { members = w.members; stores = s; answers = w.answers }) (Put key owner exp time)).answers) stores
        ∙ ap (λ (a : List Answer). (claims.happens t (record { members = w.members; stores = u.stores; answers = a }) (Put key owner exp time)).answers) answers,
  )
  store_alike w u (Remove key now) is stores answers = (ap (λ (s : ℕ → Store). (claims.happens t (record { members = w.members; stores = s; answers = w.answers }) (Remove key now)).stores) stores, answers)
  store_alike w u (End s entries deaf) is stores answers = (ap (λ (s' : ℕ → Store). (claims.happens t (record { members = w.members; stores = s'; answers = w.answers }) (End s entries deaf)).stores) stores, answers)
  store_alike w u (Tick v now) is stores answers = absurd is
  store_alike w u (Accept v now index) is stores answers = absurd is
  store_alike w u (Tell v k) is stores answers = absurd is
  store_alike w u (Restart v moment uses) is stores answers = absurd is

  members_stay : (w : claims.World) (e : claims.Event) → IsOfStores e → (claims.happens t w e).members ≡ w.members
  members_stay w (Put key owner exp time) is = refl
  members_stay w (Remove key now) is = refl
  members_stay w (End s entries deaf) is = refl
  members_stay w (Tick v now) is = absurd is
  members_stay w (Accept v now index) is = absurd is
  members_stay w (Tell v k) is = absurd is
  members_stay w (Restart v moment uses) is = absurd is

  in_store : (e : claims.Event) (a b : Now) → Reached a → IsOfStores e → PutsTelling told e
      → b ≡ record { stores = (claims.happens t (stores_of a) e).stores; answers = (claims.happens t (stores_of a) e).answers; lives = a.lives; held = a.held; members = a.members; given = a.given } → Reached b
  in_store e a b r of telling is =
      let w = history t r.events in
      let alike = store_alike w.claims (stores_of a) e of r.stores r.answers in
      subst Reached (sym is) (record {
        events = Group e ∷ r.events;
        allowed = (r.allowed, tt);
        puts = tells_more told (in_claims r.events) e telling r.puts;
        stores = alike.0;
        answers = alike.1;
        lives = λ n. ap (λ (members : ℕ → claims.Member). (members n).life) (members_stay w.claims e of) ∙ r.lives n;
        mirrors = λ n. stores_keep_members t r.events e n (a.held n) (a.members n) of (r.mirrors n);
        given = r.given;
      })

  -- the claim of a request, as the history has it
  claimed : (a : Now) (r : Reached a) (v index : ℕ) (own : Use) (caller : List ℕ) (answer : Answer) → Claims t told a v index own caller answer → IsClaimed t told v index (history t r.events) (a.members v) own caller answer
  claimed a r v index own caller answer c = record {
    given = ap (λ (answers : List Answer). slice_get answers index) r.answers ∙ c.given;
    key_is = c.key_is;
    tells = c.tells;
    fits = c.fits;
    owner = λ strict. c.owner strict ∙ ap (λ life. t.owner v life own.exp) (sym (r.lives v));
  }

  -- setting what a member knows is no event
  knowing : (events : List Event) (v : ℕ) (x : records.State) (m : MemberData) (knows : Readiness) → AreAllowed t events → Mirrors t v (history t events) x m → AreEvents t false events v None x (with_readiness m knows) deed.Nothing
  knowing events v x m knows allowed h = record {
    more = [];
    owner = None;
    owner_is = λ o is. absurd (none-some o is);
    allowed = allowed;
    puts = λ f all. all;
    stores = refl;
    answers = refl;
    lives = λ n. refl;
    mirrors = record { mode = h.mode; ahead = h.ahead; lasts = h.lasts; requests = h.requests; moment = h.moment; knows = h.knows };
    others = λ n y d other k. k;
    given = refl;
  }

  -- what is accepted by a claim that counts, is accepted for its caller
  finds_own : (events : List Event) (v now index up n : ℕ) (answer : Answer) (own : Use) (caller : List ℕ) (s : Setting) (said : Said) (h h_new : Held V) (m m_new : MemberData) (c : Claimed)
      → Mirrors t v (history t events) h.state m → AllByRecursion (PutsTelling told) (in_claims events) → IsClaimed t told v index (history t events) m own caller answer
      → awaited m up n said ≡ Some own → Finds s now up n own caller (found_by answer) said h h_new m m_new c → (o : List ℕ) → Some (owner_for m own caller) ≡ Some o → OnDeed (Owns t (Some o) (Some caller)) c.deed
  finds_own events v now index up n answer own caller s said h h_new m m_new c mirrors puts claim waits finds o is =
      let l = finds_look V t events told v now index up n answer own caller s said h h_new m m_new c mirrors puts claim waits finds in
      let e = Found n l.0 in
      let grants = subst (OnDeed (Grants e)) (sym (l.1.1 ∙ ap (λ (s : State). heard_deed l.1.0 (at_moment s up) e) mirrors.requests)) (deed_grants t events v up l.1.0 e) in
      weaker_on (Grants e) (Owns t (Some o) (Some caller)) c.deed (λ verdict grant u accepted. (
        caller,
        refl,
        λ bound. sym is ∙ ap (λ (mode : Mode). Some (owner_by (is_bound mode) m.life own caller)) (mirrors.mode ∙ cond-false t.strict Strict Bound bound)
            ∙ ap (λ (exp : ℕ). Some (owner_of_caller caller exp)) (sym (l.2 u (subst (Grants e) accepted grant)).1),
      )) grants

  step : (c : Call V) (a b : Now) → Reached a → Does V t told c a b → Reached b
  step (InStore e) a b r d = in_store e a b r d.0 d.1 d.2
  step (Find v now index up n own caller s said h h_new) a b r (inl same) = subst Reached (sym same) r
  step (Find v now index up n own caller s said h h_new) a b r (inr d) =
      let mirrors = subst (λ (x : records.State). Mirrors t v (history t r.events) x (a.members v)) (sym d.4) (r.mirrors v) in
      let claim = claimed a r v index own caller d.0 d.3 in
      claims_on a b v false (Some (owner_for (a.members v) own caller)) (Some caller) h_new.state d.1 d.2.deed r
      (finds_are_events V t r.events told v now index up n d.0 own caller s said h h_new (a.members v) d.1 d.2 r.allowed mirrors r.puts claim d.5 d.6)
      (finds_own r.events v now index up n d.0 own caller s said h h_new (a.members v) d.1 d.2 mirrors r.puts claim d.5 d.6) d.7
  step (Judge v now up n) a b r (inl same) = subst Reached (sym same) r
  step (Judge v now up n) a b r (inr d) =
      on a b v false (judged_by (adds_at_judgment (a.members v).mode) (raised_to (a.held v) now) d.0) d.1 d.2.deed r (judges_are_events t r.events v now up n d.0 (a.held v) (a.members v) d.1 d.2 r.allowed (r.mirrors v) d.3) d.4
  step (Hear v up e) a b r d = on a b v false (a.held v) d.0 d.1 r (hears_are_events t r.events v up e (a.held v) (a.members v) d.0 d.1 r.allowed (r.mirrors v) d.2 d.3) d.4
  step (Come v up refused) a b r (inl same) = subst Reached (sym same) r
  step (Come v up refused) a b r (inr is) =
      on a b v false (a.held v) (with_requests (a.members v) (comes refused (at_moment (a.members v).requests up))) deed.Nothing r
      (comes_are_events t r.events v up refused (a.held v) (a.members v) r.allowed (r.mirrors v)) is
  step (Join v other) a b r is =
      on a b v false (records.join (a.held v) other) (a.members v) deed.Nothing r (joins_are_events t r.events v (a.held v) other (a.members v) r.allowed (r.mirrors v)) is
  step (Know v knows) a b r is = on a b v false (a.held v) (with_readiness (a.members v) knows) deed.Nothing r (knowing r.events v (a.held v) (a.members v) knows r.allowed (r.mirrors v)) is
  step (Begin v wait life knows read) a b r is =
      on a b v true read (member_of (mode_of t) life (t.ahead v) t.lasts knows (begun Claim wait)) deed.Nothing r (begins_are_events t r.events v wait life knows read r.allowed) is

  reached : (calls : List (Call V)) (b : Now) → Run V t told calls b → Reached b
  reached [] b run = subst Reached (sym run.2) (record {
    events = [];
    allowed = tt;
    puts = tt;
    stores = refl;
    answers = refl;
    lives = λ n. refl;
    mirrors = λ n. record { mode = refl; ahead = refl; lasts = refl; requests = refl; moment = refl; knows = λ strict. tt };
    given = tt;
  })
  reached (c ∷ calls) b run = step c run.0 b (reached calls run.0 run.1) run.2

pub runs_answer_once : (V : Type 0) → RunsAnswerOnce V
runs_answer_once V t told calls b key exp strict margin owners run =
    let r = reached V t told calls b run in
    subst (λ (given : List Verdict). count_by (accepts (is_token key exp)) given ≤ 1) (same_verdicts t (history t r.events).given b.given r.given)
    (subst (λ n. n ≤ 1) (sym (counted (accepts (is_token key exp)) (history t r.events).given)) (tokens_are_answered_once t r.events key exp strict margin owners r.allowed))

pub runs_answer_one_caller : (V : Type 0) → RunsAnswerOneCaller V
runs_answer_one_caller V t told calls b key exp x y bound margin tell run one other =
    let r = reached V t told calls b run in
    let all = tokens_are_answered_to_one_owner t r.events key exp margin r.allowed in
    let owner_of = λ (caller : List ℕ) (is : IsAnsweredTo b.given key exp caller). owner_of_answered t key exp all.0 caller (history t r.events).given b.given bound r.given all.1 is in
    tell (owner_of x one ∙ sym (owner_of y other))

pub runs_answer_callers : (V : Type 0) → RunsAnswerCallers V
runs_answer_callers V t told calls b run = let r = reached V t told calls b run in have_callers t (history t r.events).given b.given r.given
