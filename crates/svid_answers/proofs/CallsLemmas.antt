-- The calls of a member are events of its group.
use Rattle.std.proofs.Common.{◌≡◌, ◌≢◌, ◌++◌, ℕ, max, Bool, true, false, cond, List, [], ◌∷◌, refl, sym, ap, ◌∙◌, subst, Option, None, Ok, Err, Result}
use Rattle.std.specs.Prelude.{◌+◌, ◌==◌, if◌then◌else◌}
use Rattle.std.specs.List.{AllByRecursion}
use Rattle.std.proofs.lemmas.Option.{none-some}
use Rattle.std.proofs.lemmas.Bool.{cond-false, cond-true, eq-eqb, eqb-true, ne_eqb}
use Rattle.svid_replay.specs.Records as records
use Rattle.svid_replay.specs.Buckets.{raised_to}
use Rattle.svid_replay.proofs.RecordsLemmas.{moment-join}
use Rattle.svid_claims.specs.Groups.{Accept, End, Member, Put, Remove, Restart, Tell, Terms, Tick}
use Rattle.svid_claims.specs.Expiries.{PutsTelling}
use Rattle.svid_claims.specs.Groups as claims
use Rattle.svid_requests.specs.declared.needs.Needs.TheVariants.{Claim}
use Rattle.svid_requests.specs.declared.event.Event as requests
use Rattle.svid_requests.specs.declared.event.Event.TheVariants.{Judged}
use Rattle.svid_token.specs.declared.refusal.Refusal.{Refusal}
use Rattle.svid_check.specs.declared.accepted.Accepted.{Accepted}
use Rattle.svid_member.specs.declared.mode.Mode.{Mode}
use Rattle.svid_member.specs.declared.mode.Mode.TheVariants.{Strict, Bound}
use Rattle.svid_member.specs.Judging.{judged_by, judgment_of}
use Rattle.svid_member.specs.Modes.{adds_at_claim, adds_at_judgment}
use Rattle.svid_requests.specs.declared.deed.Deed.{Deed}
use Rattle.svid_requests.specs.Tables.{State, at_moment, begun, heard, heard_deed}
use Rattle.svid_member.specs.Members.{Hears, MemberData, with_requests}
use Rattle.svid_answers.specs.Calls.{AreEvents, BeginsAreEvents, ComesAreEvents, HearsAreEvents, JoinsAreEvents, JudgesAreEvents, Mirrors, StoresKeepMembers, mode_of}
use Rattle.svid_answers.specs.Group.{AreAllowed, Event, Given, hears, in_claims, World, comes, given_by, granted, history, put}
use Rattle.svid_answers.specs.Group.Event.{Group, Come, Hear, Begin}
use Rattle.svid_answers.specs.Records.{KnowsOf}
use Rattle.svid_answers.proofs.RecordsLemmas.{all_know_join}

-- member v of a world that was changed there
pub put_at : (of : ℕ → State) (v : ℕ) (s : State) → put of v s v ≡ s
put_at of v s = cond-true (v == v) s (of v) (eq-eqb v v refl)

pub member_at : (w : claims.World) (v : ℕ) (z : Member) → (claims.put_member w v z).members v ≡ z
member_at w v z = cond-true (v == v) z (w.members v) (eq-eqb v v refl)

-- and another member
put_other : (of : ℕ → State) (v n : ℕ) (s : State) → n ≢ v → put of v s n ≡ of n
put_other of v n s other = cond-false (n == v) s (of n) (ne_eqb n v other)

pub member_other : (w : claims.World) (v n : ℕ) (z : Member) → n ≢ v → (claims.put_member w v z).members n ≡ w.members n
member_other w v n z other = cond-false (n == v) z (w.members n) (ne_eqb n v other)

-- a member that is in the same life as before leaves all lives as they were
pub life_put : (w : claims.World) (v n : ℕ) (z : Member) → z.life ≡ (w.members v).life → ((claims.put_member w v z).members n).life ≡ (w.members n).life
life_put w v n z same = by (n == v) refl where
  by : (b : Bool) → (n == v) ≡ b → (if b then z else w.members n).life ≡ (w.members n).life
  by true e = same ∙ ap (λ k. (w.members k).life) (sym (eqb-true n v e))
  by false e = refl

-- and one in its next life has one more
life_next : (w : claims.World) (v n moment : ℕ) → ((claims.put_member w v (claims.next_life (w.members v) moment [])).members n).life ≡ (if n == v then (w.members n).life + 1 else (w.members n).life)
life_next w v n moment = by (n == v) refl where
  by : (b : Bool) → (n == v) ≡ b → (if b then claims.next_life (w.members v) moment [] else w.members n).life ≡ (if b then (w.members n).life + 1 else (w.members n).life)
  by true e = ap (λ k. (w.members k).life + 1) (sym (eqb-true n v e))
  by false e = refl

mirrors_same : (t : Terms) (n : ℕ) (w w_new : World) (x : records.State) (m : MemberData) → w_new.requests n ≡ w.requests n → w_new.claims.members n ≡ w.claims.members n → Mirrors t n w x m → Mirrors t n w_new x m
mirrors_same t n w w_new x m requests members h = record {
  mode = h.mode;
  ahead = h.ahead;
  lasts = h.lasts;
  requests = h.requests ∙ sym requests;
  moment = h.moment ∙ ap (λ (d : Member). d.moment) (sym members);
  knows = λ strict. subst (λ (d : Member). AllByRecursion (KnowsOf x) d.uses) (sym members) (h.knows strict);
}

pub mirrors_other : (t : Terms) (v n : ℕ) (w : World) (c : claims.World) (s : State) (given : List Given) (x : records.State) (m : MemberData) → n ≢ v → c.members n ≡ w.claims.members n → Mirrors t n w x m
    → Mirrors t n (record { claims = c; requests = put w.requests v s; given = given }) x m
mirrors_other t v n w c s given x m other members h = mirrors_same t n w (record { claims = c; requests = put w.requests v s; given = given }) x m (put_other w.requests v n s other) members h

-- events that put nothing
pub tells_more : (told : List ℕ → ℕ) (past : List claims.Event) (e : claims.Event) → PutsTelling told e → AllByRecursion (PutsTelling told) past → AllByRecursion (PutsTelling told) (past ++ e ∷ [])
tells_more told [] e h all = (h, tt)
tells_more told (x ∷ past) e h all = (all.0, tells_more told past e h all.1)

module _ (t : Terms) (v : ℕ) where
  -- the same member later: with other requests, another record, and what the group has of it
  pub mirrors_on : (w w_new : World) (x y : records.State) (m m_new : MemberData) (s : State) (z : Member) → Mirrors t v w x m → m_new ≡ with_requests m s → w_new.requests v ≡ s → w_new.claims.members v ≡ z
      → y.moment ≡ z.moment → (t.strict ≡ true → AllByRecursion (KnowsOf y) z.uses) → Mirrors t v w_new y m_new
  mirrors_on w w_new x y m m_new s z h m_is s_is z_is moment knows = record {
    mode = ap (λ (d : MemberData). d.mode) m_is ∙ h.mode;
    ahead = ap (λ (d : MemberData). d.ahead) m_is ∙ h.ahead;
    lasts = ap (λ (d : MemberData). d.lasts) m_is ∙ h.lasts;
    requests = ap (λ (d : MemberData). d.requests) m_is ∙ sym s_is;
    moment = moment ∙ ap (λ (d : Member). d.moment) (sym z_is);
    knows = λ strict. subst (λ (d : Member). AllByRecursion (KnowsOf y) d.uses) (sym z_is) (knows strict);
  }

  -- its record is joined
  joined_mirrors : (events : List Event) (x b : records.State) (m : MemberData) → Mirrors t v (history t events) x m → Mirrors t v (history t (Group (Tick v b.moment) ∷ events)) (records.join x b) m
  joined_mirrors events x b m h =
      let w = history t events in
      let z = claims.at_moment (w.claims.members v) b.moment in
      mirrors_on w (history t (Group (Tick v b.moment) ∷ events)) x (records.join x b) m m m.requests z h refl (sym h.requests) (member_at w.claims v z)
      (moment-join x b ∙ ap (λ (n : ℕ). max n b.moment) h.moment) (λ strict. all_know_join x b (w.claims.members v).uses (h.knows strict))

  -- its requests hear of something
  heard_mirrors : (events : List Event) (up : ℕ) (e : requests.Event) (x : records.State) (m m_new : MemberData) (deed : Deed) → Mirrors t v (history t events) x m → (hears : Hears up e m deed m_new) → Mirrors t v (history t (Hear v up hears.0 e ∷ events)) x m_new
  heard_mirrors events up e x m m_new deed h hears =
      let w = history t events in
      let next = heard hears.0 (at_moment m.requests up) e in
      mirrors_on w (history t (Hear v up hears.0 e ∷ events)) x x m m_new next (w.claims.members v) h hears.2
      (put_at w.requests v (heard hears.0 (at_moment (w.requests v) up) e) ∙ ap (λ (s : State). heard hears.0 (at_moment s up) e) (sym h.requests)) refl h.moment h.knows

  pub deed_is : (w : World) (up : ℕ) (e : requests.Event) (owner : Option (List ℕ)) (x : records.State) (m m_new : MemberData) (deed : Deed) → Mirrors t v w x m → (hears : Hears up e m deed m_new)
      → given_by v owner (heard_deed hears.0 (at_moment (w.requests v) up) e) w.given ≡ given_by v owner deed w.given
  deed_is w up e owner x m m_new deed h hears = ap (λ (d : Deed). given_by v owner d w.given) (sym (hears.1 ∙ ap (λ (s : State). heard_deed hears.0 (at_moment s up) e) h.requests))

  joined_others : (events : List Event) (b : records.State) (n : ℕ) (x : records.State) (m : MemberData) → n ≢ v → Mirrors t n (history t events) x m → Mirrors t n (history t (Group (Tick v b.moment) ∷ events)) x m
  joined_others events b n x m other h =
      let w = history t events in
      mirrors_same t n w (history t (Group (Tick v b.moment) ∷ events)) x m refl (member_other w.claims v n (claims.at_moment (w.claims.members v) b.moment) other) h

  heard_others : (w : World) (up : ℕ) (e : requests.Event) (refused : Bool) (n : ℕ) (x : records.State) (m : MemberData) → n ≢ v → Mirrors t n w x m
      → Mirrors t n (hears w w.claims v None refused (at_moment (w.requests v) up) e) x m
  heard_others w up e refused n x m other h =
      let s = at_moment (w.requests v) up in
      mirrors_other t v n w w.claims (heard refused s e) (given_by v None (heard_deed refused s e) w.given) x m other refl h

  pub hears_events : (claimed : Option (List ℕ)) (events : List Event) (up : ℕ) (e : requests.Event) (x : records.State) (m m_new : MemberData) (deed : Deed) → AreAllowed t events → Mirrors t v (history t events) x m → granted e ≡ None → Hears up e m deed m_new → AreEvents t false events v claimed x m_new deed
  hears_events claimed events up e x m m_new deed allowed h grants hears = record {
    more = Hear v up hears.0 e ∷ [];
    owner = None;
    owner_is = λ o is. absurd (none-some o is);
    allowed = (allowed, grants);
    puts = λ told all. all;
    stores = refl;
    answers = refl;
    lives = λ n. refl;
    mirrors = heard_mirrors events up e x m m_new deed h hears;
    others = λ n y d other k. heard_others (history t events) up e hears.0 n y d other k;
    given = deed_is (history t events) up e None x m m_new deed h hears;
  }

  -- its record is joined, and then they hear of something
  pub joins_hear : (claimed : Option (List ℕ)) (events : List Event) (up : ℕ) (e : requests.Event) (x b : records.State) (m m_new : MemberData) (deed : Deed) → AreAllowed t events → Mirrors t v (history t events) x m → granted e ≡ None → Hears up e m deed m_new
      → AreEvents t false events v claimed (records.join x b) m_new deed
  joins_hear claimed events up e x b m m_new deed allowed h grants hears =
      let joined = joined_mirrors events x b m h in record {
        more = Hear v up hears.0 e ∷ Group (Tick v b.moment) ∷ [];
        owner = None;
        owner_is = λ o is. absurd (none-some o is);
        allowed = ((allowed, tt), grants);
        puts = λ told all. tells_more told (in_claims events) (Tick v b.moment) tt all;
        stores = refl;
        answers = refl;
        lives = λ n. life_put (history t events).claims v n (claims.at_moment ((history t events).claims.members v) b.moment) refl;
        others = λ n y d other k. heard_others (history t (Group (Tick v b.moment) ∷ events)) up e hears.0 n y d other (joined_others events b n y d other k);
        mirrors = heard_mirrors (Group (Tick v b.moment) ∷ events) up e (records.join x b) m m_new deed joined hears;
        given = deed_is (history t (Group (Tick v b.moment) ∷ events)) up e None (records.join x b) m m_new deed joined hears;
      }

pub hears_are_events : HearsAreEvents
hears_are_events t events v up e x m m_new deed allowed h grants hears = hears_events t v None events up e x m m_new deed allowed h grants hears

pub joins_are_events : JoinsAreEvents
joins_are_events t events v x b m allowed h = record {
  puts = λ told all. tells_more told (in_claims events) (Tick v b.moment) tt all;
  stores = refl;
  answers = refl;
  lives = λ n. life_put (history t events).claims v n (claims.at_moment ((history t events).claims.members v) b.moment) refl;
  others = λ n y d other k. joined_others t v events b n y d other k;
  more = Group (Tick v b.moment) ∷ [];
  owner = None;
  owner_is = λ o is. absurd (none-some o is);
  allowed = (allowed, tt);
  mirrors = joined_mirrors t v events x b m h;
  given = refl;
}

-- The mode.

modes_once : (b : Bool) (m : Mode) → m ≡ cond b Strict Bound → adds_at_judgment m ≡ false
modes_once true m is = ap adds_at_judgment is
modes_once false m is = ap adds_at_judgment is

pub strict_adds : (t : Terms) (m : Mode) → m ≡ mode_of t → t.strict ≡ true → adds_at_claim m ≡ true
strict_adds t m is strict = ap adds_at_claim (is ∙ cond-true t.strict Strict Bound strict)

none_held : (n : ℕ) (answer : Result Accepted Refusal) → granted (Judged n (judgment_of answer)) ≡ None
none_held n (Ok accepted) = refl
none_held n (Err refusal) = refl

pub judges_are_events : JudgesAreEvents
judges_are_events t events v now up n answer x m m_new asked allowed h told =
    subst (λ (b : Bool). AreEvents t false events v None (judged_by b (raised_to x now) answer) m_new asked.deed) (sym (modes_once t.strict m.mode h.mode))
    (joins_hear t v None events up (Judged n (judgment_of answer)) x (records.state_of now []) m m_new asked.deed allowed h (none_held n answer) told.0)

pub comes_are_events : ComesAreEvents
comes_are_events t events v up refused x m allowed h =
    let w = history t events in record {
      more = Come v up refused ∷ [];
      owner = None;
      owner_is = λ o is. absurd (none-some o is);
      allowed = (allowed, tt);
      puts = λ told all. all;
      stores = refl;
      answers = refl;
      lives = λ n. refl;
      others = λ n y d other k. mirrors_other t v n w w.claims (comes refused (at_moment (w.requests v) up)) w.given y d other refl k;
      mirrors = mirrors_on t v w (history t (Come v up refused ∷ events)) x x m (with_requests m (comes refused (at_moment m.requests up))) (comes refused (at_moment m.requests up)) (w.claims.members v) h refl
          (put_at w.requests v (comes refused (at_moment (w.requests v) up)) ∙ ap (λ (s : State). comes refused (at_moment s up)) (sym h.requests)) refl h.moment h.knows;
      given = refl;
    }

pub begins_are_events : BeginsAreEvents
begins_are_events t events v wait life knows x allowed =
    let w = history t events in
    let z = claims.next_life (w.claims.members v) x.moment [] in record {
      more = Begin v wait x.moment [] ∷ [];
      owner = None;
      owner_is = λ o is. absurd (none-some o is);
      allowed = (allowed, tt);
      puts = λ told all. tells_more told (in_claims events) (Restart v x.moment []) tt all;
      stores = refl;
      answers = refl;
      lives = λ n. life_next w.claims v n x.moment;
      others = λ n y d other k. mirrors_other t v n w (claims.put_member w.claims v z) (begun Claim wait) w.given y d other (member_other w.claims v n z other) k;
      mirrors = record {
        mode = refl;
        ahead = refl;
        lasts = refl;
        requests = sym (put_at w.requests v (begun Claim wait));
        moment = ap (λ (d : Member). d.moment) (sym (member_at w.claims v z));
        knows = λ strict. subst (λ (d : Member). AllByRecursion (KnowsOf x) d.uses) (sym (member_at w.claims v z)) tt;
      };
      given = refl;
    }

pub stores_keep_members : StoresKeepMembers
stores_keep_members t events (Put key owner exp time) v x m is h = mirrors_same t v (history t events) (history t (Group (Put key owner exp time) ∷ events)) x m refl refl h
stores_keep_members t events (Remove key now) v x m is h = mirrors_same t v (history t events) (history t (Group (Remove key now) ∷ events)) x m refl refl h
stores_keep_members t events (End s entries deaf) v x m is h = mirrors_same t v (history t events) (history t (Group (End s entries deaf) ∷ events)) x m refl refl h
stores_keep_members t events (Tick n now) v x m is h = absurd is
stores_keep_members t events (Accept n now index) v x m is h = absurd is
stores_keep_members t events (Tell n u) v x m is h = absurd is
stores_keep_members t events (Restart n moment uses) v x m is h = absurd is
