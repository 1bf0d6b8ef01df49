-- What a member hears of a store's answer is a look at that answer.
use Rattle.std.proofs.Common.{◌≡◌, inl, ℕ, ◌<◌, ◌≤◌, ◌^◌, ◌-◌, max, Bool, true, false, cond, List, [], ◌∷◌, refl, sym, ap, ◌∙◌, subst, arith, Option, Some, None, slice_get, Ok, Err, Result}
use Rattle.std.specs.Prelude.{◌==◌}
use Rattle.std.specs.List.{AllByRecursion}
use Rattle.std.proofs.lemmas.Bool.{and_parts, cond-true, eqb-true, false_from_ne_true, true≢false}
use Rattle.std.proofs.lemmas.Option.{none-some, same_Some}
use Rattle.svid_token.specs.declared.refusal.Refusal.{Refusal}
use Rattle.svid_token.specs.Rows.{Answers}
use Rattle.svid_replay.specs.declared.token_use.Use.{Use}
use Rattle.svid_replay.specs.Records as records
use Rattle.svid_replay.specs.Buckets.{raised_to}
use Rattle.svid_replay.specs.Uses.{has_use_of}
use Rattle.svid_replay.proofs.RecordsLemmas.{join_assoc, moment-join}
use Rattle.svid_log.proofs.StepsLemmas.{joined_has}
use Rattle.svid_claims.specs.declared.claim.Claim.{Claim}
use Rattle.svid_claims.specs.declared.outcome.Outcome.{Outcome}
use Rattle.svid_claims.specs.declared.outcome.Outcome.TheVariants.{Withdrawn, Taken, Far, Deaf, Expired, Mine}
use Rattle.svid_claims.specs.Calls.{entry_of, found_by}
use Rattle.svid_claims.specs.Expiries.{PutsTelling, TellsExpiry}
use Rattle.svid_claims.specs.Groups.{Accept, Accepts, Answer, KnownUse, Member, Terms, happen, is_accepted, is_used, look, moment_of, use_of, with_look}
use Rattle.svid_claims.specs.Groups as claims
use Rattle.svid_claims.specs.Outcomes.{outcome_of}
use Rattle.svid_claims.specs.Owners.{same}
use Rattle.svid_claims.specs.Times.{moment_by}
use Rattle.svid_claims.proofs.CallsLemmas.{answers_are_events}
use Rattle.svid_claims.proofs.RowsLemmas.{same_is}
use Rattle.svid_check.specs.Changes.{gains, withdrawn_in}
use Rattle.svid_check.specs.Said.{Said}
use Rattle.svid_check.specs.Setting.{Held, Setting}
use Rattle.svid_check.specs.Verdict.{key_of, verdict_on}
use Rattle.svid_check.specs.declared.accepted.Accepted.{Accepted}
use Rattle.svid_requests.specs.declared.judgment.Judgment.{Judgment}
use Rattle.svid_requests.specs.declared.judgment.Judgment.TheVariants.{Passes, Fails}
use Rattle.svid_requests.specs.declared.event.Event.TheVariants.{Found}
use Rattle.svid_requests.specs.declared.deed.Deed.{Deed}
use Rattle.svid_requests.specs.Tables.{State, at_moment, claimed, heard, heard_deed}
use Rattle.svid_member.specs.declared.claimed.Claimed.{Claimed}
use Rattle.svid_member.specs.Claiming.{owner_for, Finds, FindsBy, awaited, claim_for, is_of, look_at, of_token, reason_for}
use Rattle.svid_member.specs.Judging.{judged_by, judgment_of}
use Rattle.svid_member.specs.Members.{Hears, MemberData}
use Rattle.svid_member.specs.Modes.{adds_at_claim}
use Rattle.svid_member.specs.Reasons.{reason_of}
use Rattle.svid_answers.specs.Calls.{AreEvents, FindsAreEvents, FoundIsALook, IsClaimed, Mirrors}
use Rattle.svid_answers.specs.Group.{AreAllowed, Event, FindsUse, World, given_by, history, in_claims, owner_in, passing}
use Rattle.svid_answers.specs.Group.Event.{Looks}
use Rattle.svid_answers.specs.Records.{Knows, KnowsOf}
use Rattle.svid_answers.proofs.CallsLemmas.{life_put, deed_is, hears_events, joins_hear, member_at, member_other, mirrors_on, mirrors_other, tells_more, put_at, strict_adds}
use Rattle.svid_answers.proofs.GroupLemmas.{claims_is}
use Rattle.svid_answers.proofs.RecordsLemmas.{accepts_says, all_know_join, all_know_judged, known_is_used, moment_judged}

-- The claim that a request waits for is of its token.
awaited_is : (said : Said) (o : Option Use) (own : Use) → of_token said o ≡ Some own → (said.exp ≡ own.exp) × (key_of said ≡ own.key)
awaited_is said None own is = absurd (none-some own is)
awaited_is said (Some u) own is = by (is_of said u) refl is
  where
    parts : is_of said own ≡ true → (said.exp ≡ own.exp) × (key_of said ≡ own.key)
    parts both = let p = and_parts (said.exp == own.exp) (same (key_of said) own.key) both in (eqb-true said.exp own.exp p.0, same_is (key_of said) own.key p.1)

    by : (b : Bool) → is_of said u ≡ b → cond b (Some u) None ≡ Some own → (said.exp ≡ own.exp) × (key_of said ≡ own.key)
    by true of is = parts (subst (λ (d : Use). is_of said d ≡ true) (same_Some u own is) of)
    by false of is = absurd (none-some own is)

-- A claim that counts is accepted in the group, whatever its history.
mine_accepts : (t : Terms) (past : List claims.Event) (told : List ℕ → ℕ) (w : claims.World) (v now i : ℕ) (a : Answer) (c : Claim) → w ≡ happen t claims.start past → AllByRecursion (PutsTelling told) past → TellsExpiry told (entry_of c) → c.exp < 2 ^ 64 → slice_get w.answers i ≡ Some a
    → outcome_of c (found_by a) t.lasts (moment_of (t.ahead v) (w.members v) now a) ≡ Mine
    → (t.strict ≡ true → (c.owner.bytes ≡ t.owner v (w.members v).life c.exp) × (is_used (w.members v).uses a.key (moment_of (t.ahead v) (w.members v) now a) ≡ false)) → Accepts t w v now i a × (a.found ≡ entry_of c)
mine_accepts t past told w v now i a c is puts tells fits =
    subst (λ (x : claims.World). slice_get x.answers i ≡ Some a → outcome_of c (found_by a) t.lasts (moment_of (t.ahead v) (x.members v) now a) ≡ Mine
    → (t.strict ≡ true → (c.owner.bytes ≡ t.owner v (x.members v).life c.exp) × (is_used (x.members v).uses a.key (moment_of (t.ahead v) (x.members v) now a) ≡ false)) → Accepts t x v now i a × (a.found ≡ entry_of c))
    (sym is) (λ given mine mode. (answers_are_events t past told v now i a c puts tells fits given).0 mine mode)

no_later : (x moment now time ahead : ℕ) → x ≡ moment → max x now ≤ max (max moment now) (time - ahead)
no_later x moment now time ahead is = omega arith

module _ (t : Terms) (events : List Event) (told : List ℕ → ℕ) (v now index : ℕ) (a : Answer) (own : Use) (caller : List ℕ) (s : Setting) (said : Said) (x : records.State) (m : MemberData) where
  abbrev w : World
  w = history t events

  abbrev y : Member
  y = w.claims.members v

  abbrev raised : records.State
  raised = raised_to x now

  abbrev outcome : Outcome
  outcome = outcome_of (claim_for m own caller) (found_by a) m.lasts (look_at m (max x.moment now) (found_by a))

  -- the member and the group look at one moment
  outcome_is : Mirrors t v w x m → outcome ≡ outcome_of (claim_for m own caller) (found_by a) t.lasts (moment_of (t.ahead v) y now a)
  outcome_is h =
      ap (λ (n : ℕ). outcome_of (claim_for m own caller) (found_by a) n (look_at m (max x.moment now) (found_by a))) h.lasts
      ∙ ap (λ (n : ℕ). outcome_of (claim_for m own caller) (found_by a) t.lasts (moment_by (max x.moment now) a.time n)) h.ahead
      ∙ ap (λ (n : ℕ). outcome_of (claim_for m own caller) (found_by a) t.lasts (moment_by (max n now) a.time (t.ahead v))) h.moment

  -- where the record has no use of the key, the group knows no live one
  fresh : Mirrors t v w x m → t.strict ≡ true → has_use_of raised.uses a.key ≡ false → is_used y.uses a.key (moment_of (t.ahead v) y now a) ≡ false
  fresh h strict none =
      false_from_ne_true (is_used y.uses a.key (moment_of (t.ahead v) y now a)) (λ is. true≢false (sym (known_is_used raised y.uses a.key (moment_of (t.ahead v) y now a)
      (all_know_join x (records.state_of now []) y.uses (h.knows strict))
      (subst (λ (n : ℕ). n ≤ moment_of (t.ahead v) y now a) (sym (moment-join x (records.state_of now []))) (no_later x.moment y.moment now a.time (t.ahead v) h.moment)) is) ∙ none))

  -- a claim that counts, of a token that the validator accepts
  finds_use : (accepted : Accepted) → Mirrors t v w x m → AllByRecursion (PutsTelling told) (in_claims events) → IsClaimed t told v index w m own caller a → (said.exp ≡ own.exp) × (key_of said ≡ own.key)
      → outcome ≡ Mine → verdict_on s raised.moment raised.uses said ≡ Ok (Some accepted) → (Accepts t w.claims v now index a) × (a.key ≡ accepted.used.key) × (a.found.exp ≡ accepted.used.exp) × (a.found.owner ≡ owner_for m own caller)
  finds_use accepted h puts claim of mine is =
      let said_is = accepts_says s raised.moment raised.uses said accepted is in
      let key = claim.key_is ∙ sym (said_is.key_is ∙ of.1) in
      let both = mine_accepts t (in_claims events) told w.claims v now index a (claim_for m own caller) (claims_is t events) puts claim.tells claim.fits claim.given (sym (outcome_is h) ∙ mine)
      (λ strict. (claim.owner strict, fresh h strict (subst (λ (k : List ℕ). has_use_of raised.uses k ≡ false) (sym key) said_is.unused))) in
      (both.0, key, ap (λ (e : claims.Entry). e.exp) both.1 ∙ sym (said_is.exp_is ∙ of.0), ap (λ (e : claims.Entry). e.owner) both.1)

-- what the request hears, by the outcome: a use that passes is found, and expires with the claim
abbrev pub IsLook : (t : Terms) (w : World) (v now index up n exp : ℕ) → MemberData → MemberData → Deed → Type 0
IsLook t w v now index up n exp m m_new deed = (j : Judgment) × Hears up (Found n j) m deed m_new × ((u : Use) → passing j ≡ Some u → FindsUse t w.claims v now index u × (u.exp ≡ exp))

refused_look : (t : Terms) (w : World) (v now index up n exp why : ℕ) (m m_new : MemberData) (deed : Deed) → Hears up (Found n (Fails why)) m deed m_new → IsLook t w v now index up n exp m m_new deed
refused_look t w v now index up n exp why m m_new deed hears = (Fails why, hears, λ u is. absurd (none-some u is))

module _ (V : Type 0) (t : Terms) (events : List Event) (told : List ℕ → ℕ) (v now index up n : ℕ) (a : Answer) (own : Use) (caller : List ℕ) (s : Setting) (said : Said) (h h_new : Held V) (m m_new : MemberData) (c : Claimed) where
  abbrev LookIs : Type 0
  LookIs = IsLook t (history t events) v now index up n own.exp m m_new c.deed

  abbrev Judges : Result Accepted Refusal → Type 0
  Judges answer = Answers Some answer (verdict_on s (raised_to h.state now).moment (raised_to h.state now).uses said) × Hears up (Found n (judgment_of answer)) m c.deed m_new

  abbrev Counts : Type 0
  Counts = outcome t events told v now index a own caller s said h.state m ≡ Mine

  module _ (mirrors : Mirrors t v (history t events) h.state m) (puts : AllByRecursion (PutsTelling told) (in_claims events)) (claim : IsClaimed t told v index (history t events) m own caller a) (waits : awaited m up n said ≡ Some own) where
    finds_accepted : (accepted : Accepted) → Counts → Judges (Ok accepted) → (Accepts t (history t events).claims v now index a) × (a.key ≡ accepted.used.key) × (a.found.exp ≡ accepted.used.exp) × (a.found.owner ≡ owner_for m own caller)
    finds_accepted accepted mine is =
        finds_use t events told v now index a own caller s said h.state m accepted mirrors puts claim (awaited_is said (claimed (at_moment m.requests up) n) own waits) mine is.0

    look_judged : (answer : Result Accepted Refusal) → Counts → Judges answer → LookIs
    look_judged (Ok accepted) mine is =
        let f = finds_accepted accepted mine is in
        let exp = (accepts_says s (raised_to h.state now).moment (raised_to h.state now).uses said accepted is.0).exp_is ∙ (awaited_is said (claimed (at_moment m.requests up) n) own waits).0 in
        (Passes accepted.used, is.1, λ u some. subst (λ (d : Use). FindsUse t (history t events).claims v now index d × (d.exp ≡ own.exp)) (same_Some accepted.used u some) (record { answer = a; accepts = f.0; key_is = f.1; exp_is = f.2 }, exp))
    look_judged (Err refusal) mine is = (judgment_of (Err refusal), is.1, λ u some. absurd (none-some u some))

    look_by : (o : Outcome) → outcome t events told v now index a own caller s said h.state m ≡ o → FindsBy o s now up n own said h h_new m m_new c → LookIs
    look_by Mine is f = look_judged f.0 is (f.1, f.3)
    look_by Withdrawn is f = refused_look t (history t events) v now index up n own.exp (reason_for Withdrawn) m m_new c.deed f.1.0
    look_by Taken is f = refused_look t (history t events) v now index up n own.exp (reason_for Taken) m m_new c.deed f.1.0
    look_by Far is f = refused_look t (history t events) v now index up n own.exp (reason_for Far) m m_new c.deed f.1.0
    look_by Deaf is f = refused_look t (history t events) v now index up n own.exp (reason_for Deaf) m m_new c.deed f.1.0
    look_by Expired is f = refused_look t (history t events) v now index up n own.exp (reason_for Expired) m m_new c.deed f.1.0

    pub finds_look : Finds s now up n own caller (found_by a) said h h_new m m_new c → IsLook t (history t events) v now index up n own.exp m m_new c.deed
    finds_look finds = look_by (outcome t events told v now index a own caller s said h.state m) refl finds

pub found_is_a_look : (V : Type 0) → FoundIsALook V
found_is_a_look V t events told v now index up n a own caller s said h h_new m m_new c mirrors puts claim waits finds =
    let l = finds_look V t events told v now index up n a own caller s said h h_new m m_new c mirrors puts claim waits finds in
    (l.0, l.1, λ u is. (l.2 u is).0)

-- What such a call leaves.

-- what the group has of its member after a look that is accepted
looked_at : (t : Terms) (w : claims.World) (v now index : ℕ) (a : Answer) → Accepts t w v now index a → (claims.happens t w (Accept v now index)).members v ≡ with_look t v (w.members v) now a
looked_at t w v now index a is = ap (λ (o : Option Answer). (look t w v now o).members v) is.given ∙ member_at w v (with_look t v (w.members v) now a)

looked_uses : (t : Terms) (w : claims.World) (v now index : ℕ) (a : Answer) → Accepts t w v now index a → (with_look t v (w.members v) now a).uses ≡ use_of a ∷ (w.members v).uses
looked_uses t w v now index a is = cond-true (is_accepted t v (w.members v) now a) (use_of a ∷ (w.members v).uses) (w.members v).uses is.accepted

-- the record knows the use that it gained
gained : (x : records.State) (accepted : Accepted) (a : Answer) (adds : Bool) → adds ≡ true → a.key ≡ accepted.used.key → a.found.exp ≡ accepted.used.exp → x.moment < accepted.used.exp → KnowsOf (judged_by adds x (Ok accepted)) (use_of a)
gained x accepted a adds is key exp live =
    (accepted.used, sym key, omega (arith, exp), subst (λ (b : Bool). Knows (judged_by b x (Ok accepted)) accepted.used) (sym is) (inl (joined_has x accepted.used live)))

raised_moment : (x : records.State) (now moment : ℕ) → x.moment ≡ moment → (raised_to x now).moment ≡ max moment now
raised_moment x now moment is = moment-join x (records.state_of now []) ∙ ap (λ (n : ℕ). max n now) is

look_events : (t : Terms) (events : List Event) (v now index up n : ℕ) (a : Answer) (accepted : Accepted) (x : records.State) (m m_new : MemberData) (deed : Deed) → AreAllowed t events → Mirrors t v (history t events) x m
    → Accepts t (history t events).claims v now index a → a.key ≡ accepted.used.key → a.found.exp ≡ accepted.used.exp → (raised_to x now).moment < accepted.used.exp → Hears up (Found n (Passes accepted.used)) m deed m_new
    → AreEvents t false events v (Some a.found.owner) (judged_by (adds_at_claim m.mode) (raised_to x now) (Ok accepted)) m_new deed
look_events t events v now index up n a accepted x m m_new deed allowed h is key exp live hears =
    let w = history t events in
    let y = w.claims.members v in
    let adds = adds_at_claim m.mode in
    let raised = raised_to x now in
    let e = Found n (Passes accepted.used) in
    let it = Looks v now index up n hears.0 (Passes accepted.used) in record {
      more = it ∷ [];
      owner = owner_in (slice_get w.claims.answers index);
      owner_is = λ o some. sym (ap owner_in is.given) ∙ some;
      allowed = (allowed, λ u some. subst (FindsUse t w.claims v now index) (same_Some accepted.used u some) (record { answer = a; accepts = is; key_is = key; exp_is = exp }));
      puts = λ told all. tells_more told (in_claims events) (Accept v now index) tt all;
      stores = ap (λ (o : Option Answer). (look t w.claims v now o).stores) is.given;
      answers = ap (λ (o : Option Answer). (look t w.claims v now o).answers) is.given;
      lives = λ n. ap (λ (o : Option Answer). ((look t w.claims v now o).members n).life) is.given ∙ life_put w.claims v n (with_look t v (w.claims.members v) now a) refl;
      others = λ n y d other k. mirrors_other t v n w (claims.happens t w.claims (Accept v now index)) (heard hears.0 (at_moment (w.requests v) up) e)
          (given_by v (owner_in (slice_get w.claims.answers index)) (heard_deed hears.0 (at_moment (w.requests v) up) e) w.given) y d other
          (ap (λ (o : Option Answer). (look t w.claims v now o).members n) is.given ∙ member_other w.claims v n (with_look t v (w.claims.members v) now a) other) k;
      mirrors = mirrors_on t v w (history t (it ∷ events)) x (judged_by adds raised (Ok accepted)) m m_new (heard hears.0 (at_moment m.requests up) e) (with_look t v y now a) h hears.2
          (put_at w.requests v (heard hears.0 (at_moment (w.requests v) up) e) ∙ ap (λ (r : State). heard hears.0 (at_moment r up) e) (sym h.requests))
          (looked_at t w.claims v now index a is) (moment_judged adds raised (Ok accepted) ∙ raised_moment x now y.moment h.moment)
          (λ strict. subst (λ (uses : List KnownUse). AllByRecursion (KnowsOf (judged_by adds raised (Ok accepted))) uses) (sym (looked_uses t w.claims v now index a is))
          (gained raised accepted a adds (strict_adds t m.mode h.mode strict) key exp live, all_know_judged adds raised (Ok accepted) y.uses (all_know_join x (records.state_of now []) y.uses (h.knows strict))));
      given = deed_is t v w up e (owner_in (slice_get w.claims.answers index)) x m m_new deed h hears;
    }

-- the record of a refusal, and of a withdrawal, is one that was joined
refused_record : (adds : Bool) (x : records.State) (refusal : Refusal) → judged_by adds x (Err refusal) ≡ x
refused_record true x refusal = refl
refused_record false x refusal = refl

module _ (V : Type 0) (t : Terms) (events : List Event) (told : List ℕ → ℕ) (v now index up n : ℕ) (a : Answer) (own : Use) (caller : List ℕ) (s : Setting) (said : Said) (h h_new : Held V) (m m_new : MemberData) (c : Claimed)
    (allowed : AreAllowed t events) (mirrors : Mirrors t v (history t events) h.state m) where
  abbrev Done : records.State → Type 0
  Done x = AreEvents t false events v (Some (owner_for m own caller)) x m_new c.deed

  refused_events : (why : ℕ) → h_new ≡ h → Hears up (Found n (Fails why)) m c.deed m_new → Done h_new.state
  refused_events why same hears = subst Done (ap (λ (x : Held V). x.state) (sym same)) (hears_events t v (Some (owner_for m own caller)) events up (Found n (Fails why)) h.state m m_new c.deed allowed mirrors refl hears)

  joined_events : (b : records.State) (why : ℕ) → h_new.state ≡ records.join h.state b → Hears up (Found n (Fails why)) m c.deed m_new → Done h_new.state
  joined_events b why is hears = subst Done (sym is) (joins_hear t v (Some (owner_for m own caller)) events up (Found n (Fails why)) h.state b m m_new c.deed allowed mirrors refl hears)

  withdrawn_events : (o : Option Use) (why : ℕ) → h_new.state ≡ gains (raised_to h.state now) o → Hears up (Found n (Fails why)) m c.deed m_new → Done h_new.state
  withdrawn_events None why is hears = joined_events (records.state_of now []) why is hears
  withdrawn_events (Some u) why is hears =
      joined_events (records.join (records.state_of now []) (records.state_of (raised_to h.state now).moment (u ∷ []))) why
      (is ∙ join_assoc h.state (records.state_of now []) (records.state_of (raised_to h.state now).moment (u ∷ []))) hears

  judged_events : (answer : Result Accepted Refusal) → (puts : AllByRecursion (PutsTelling told) (in_claims events)) → IsClaimed t told v index (history t events) m own caller a → awaited m up n said ≡ Some own
      → Counts V t events told v now index up n a own caller s said h h_new m m_new c → Judges V t events told v now index up n a own caller s said h h_new m m_new c answer
      → h_new.state ≡ judged_by (adds_at_claim m.mode) (raised_to h.state now) answer → Done h_new.state
  judged_events (Ok accepted) puts claim waits mine is left =
      let f = finds_accepted V t events told v now index up n a own caller s said h h_new m m_new c mirrors puts claim waits accepted mine is in
      let live = (accepts_says s (raised_to h.state now).moment (raised_to h.state now).uses said accepted is.0).live in
      subst Done (sym left) (subst (λ (o : List ℕ). AreEvents t false events v (Some o) (judged_by (adds_at_claim m.mode) (raised_to h.state now) (Ok accepted)) m_new c.deed) f.3 (look_events t events v now index up n a accepted h.state m m_new c.deed allowed mirrors f.0 f.1 f.2 live is.1))
  judged_events (Err refusal) puts claim waits mine is left = joined_events (records.state_of now []) (reason_of refusal) (left ∙ refused_record (adds_at_claim m.mode) (raised_to h.state now) refusal) is.1

  finds_by : (o : Outcome) → outcome t events told v now index a own caller s said h.state m ≡ o → AllByRecursion (PutsTelling told) (in_claims events) → IsClaimed t told v index (history t events) m own caller a → awaited m up n said ≡ Some own
      → FindsBy o s now up n own said h h_new m m_new c → Done h_new.state
  finds_by Mine is puts claim waits f = judged_events f.0 puts claim waits is (f.1, f.3) (ap (λ (x : Held V). x.state) f.2)
  finds_by Withdrawn is puts claim waits f = withdrawn_events (withdrawn_in f.0.0) (reason_for Withdrawn) (ap (λ (x : Held V). x.state) f.0.2) f.1.0
  finds_by Taken is puts claim waits f = refused_events (reason_for Taken) f.0 f.1.0
  finds_by Far is puts claim waits f = refused_events (reason_for Far) f.0 f.1.0
  finds_by Deaf is puts claim waits f = refused_events (reason_for Deaf) f.0 f.1.0
  finds_by Expired is puts claim waits f = refused_events (reason_for Expired) f.0 f.1.0

pub finds_are_events : (V : Type 0) → FindsAreEvents V
finds_are_events V t events told v now index up n a own caller s said h h_new m m_new c allowed mirrors puts claim waits finds =
    finds_by V t events told v now index up n a own caller s said h h_new m m_new c allowed mirrors (outcome t events told v now index a own caller s said h.state m) refl puts claim waits finds
