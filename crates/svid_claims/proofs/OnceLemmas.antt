-- Of all acceptances of a token there is one owner, and in a strict group there is one.
use Rattle.std.proofs.Common.{◌≡◌, ◌⊎◌, inl, inr, ℕ, ◌+◌, ◌-◌, ◌<◌, ◌≤◌, max, true, false, not, ◌&&◌, List, [], ◌∷◌, refl, sym, ap, ◌∙◌, subst, arith}
use Rattle.std.specs.Prelude.{Option, Some, None, slice_get, ◌==◌, nat_lt}
use Rattle.std.proofs.lemmas.Bool.{and_from, and_parts, cases_order, cond-true, cond_both, eq-eqb, eqb-true, lt-ltb, not-true, or_left, or_right, true≢false}
use Rattle.std.proofs.lemmas.Option.{same_Some}
use Rattle.svid_claims.specs.Groups.{Accept, Accepts, Answer, End, Entry, Event, KnownUse, Member, Put, Remove, Restart, Tell, Terms, Tick, World, at_moment, happen, happens, is_accepted, is_fresh, is_used, look, moment_of, next_life, put_member, start, use_of, with_look, with_use}
use Rattle.svid_claims.specs.Once.{AcceptedIsFound, AcceptedOnce, HasMargin, HasOneOwner, LaterIsPast, WithdrawnIsRefused}
use Rattle.svid_claims.specs.Owners.{same, withdrawn}
use Rattle.svid_claims.proofs.AcceptsLemmas.{accepted_says}
use Rattle.svid_claims.proofs.GroupsLemmas.{Grows, Sound, grows_on, happen_grows, happen_sound, happens_grows, happens_sound, is_sound}
use Rattle.svid_claims.proofs.RowsLemmas.{is_same, same_is}

module _ (t : Terms) where
  -- A claim by which a member accepted: the store answered before its expiry, up to the margin; the token lives not too long by the answer's
  -- time, and longer than its `deaf`.
  pub record Claimed (w : World) (c : Answer) : Type 0 where
    pub index : ℕ
    pub given : slice_get w.answers index ≡ Some c
    pub alive : c.time + t.back < c.found.exp + t.margin
    pub near : c.found.exp ≤ c.time + t.lasts
    pub heard : c.deaf < c.found.exp
    pub claims : same c.found.owner withdrawn ≡ false

  pub accepted_is_claimed : (w : World) (v now i : ℕ) (c : Answer) → HasMargin t → Accepts t w v now i c → Claimed w c
  accepted_is_claimed w v now i c margin a =
      let says = accepted_says t v (w.members v) now c a.accepted in
      record {
        index = i;
        given = a.given;
        alive = in_time (w.members v).moment now c.time (t.ahead v) t.back t.margin c.found.exp (margin v) says.live;
        near = says.near;
        heard = says.heard;
        claims = says.claims;
      }
    where
      in_time : (m n time ahead back margin exp : ℕ) → ahead + back ≤ margin → max (max m n) (time - ahead) < exp → time + back < exp + margin
      in_time m n time ahead back margin exp le lt = omega arith

  claimed_grows : (a b : World) (c : Answer) → Grows a b → Claimed a c → Claimed b c
  claimed_grows a b c grows k = record {
    index = k.index;
    given = grows.kept k.index c k.given;
    alive = k.alive;
    near = k.near;
    heard = k.heard;
    claims = k.claims;
  }

  -- two claims
  module _ (w : World) (c d : Answer) (sound : Sound t w) (one : Claimed w c) (two : Claimed w d) (keys : c.key ≡ d.key) (exps : c.found.exp ≡ d.found.exp) where
    not_both : (exp other time back margin : ℕ) → exp + margin ≤ time + back → time + back < other + margin → exp ≡ other → ⊥
    not_both exp other time back margin le lt is = omega arith

    not_heard : (exp other long deaf : ℕ) → exp ≤ long → long ≤ deaf → deaf < other → exp ≡ other → ⊥
    not_heard exp other long deaf le more lt is = omega arith

    by_order : c.epoch ≡ d.epoch → (one.index ≡ two.index) ⊎ ((one.index < two.index) ⊎ (two.index < one.index)) → c.found.owner ≡ d.found.owner
    by_order epochs (inl is) = ap (λ (x : Answer). x.found.owner) (same_Some c d (sym one.given ∙ (ap (λ i. slice_get w.answers i) is ∙ two.given)))
    by_order epochs (inr (inl lt)) = elim (sound.order one.index two.index c d one.given two.given lt keys epochs) [
      | inl found ↦ ap (λ (x : Entry). x.owner) found
      | inr le ↦ absurd (not_both c.found.exp d.found.exp d.time t.back t.margin le two.alive exps)
    ]
    by_order epochs (inr (inr gt)) = elim (sound.order two.index one.index d c two.given one.given gt (sym keys) (sym epochs)) [
      | inl found ↦ ap (λ (x : Entry). x.owner) (sym found)
      | inr le ↦ absurd (not_both d.found.exp c.found.exp c.time t.back t.margin le one.alive (sym exps))
    ]

    by_epochs : (c.epoch ≡ d.epoch) ⊎ ((c.epoch < d.epoch) ⊎ (d.epoch < c.epoch)) → c.found.owner ≡ d.found.owner
    by_epochs (inl is) = by_order is (cases_order one.index two.index)
    by_epochs (inr (inl lt)) =
        absurd (not_heard c.found.exp d.found.exp (c.time + t.lasts) d.deaf one.near (sound.past one.index two.index c d one.given two.given (ap t.shard keys) lt) two.heard exps)
    by_epochs (inr (inr gt)) =
        absurd (not_heard d.found.exp c.found.exp (d.time + t.lasts) c.deaf two.near (sound.past two.index one.index d c two.given one.given (ap t.shard (sym keys)) gt) one.heard (sym exps))

    one_owner : c.found.owner ≡ d.found.owner
    one_owner = by_epochs (cases_order c.epoch d.epoch)

  -- two moments of a group
  module _ (before between : List Event) (v now i : ℕ) where
    abbrev one_world : World
    one_world = happen t start before

    abbrev next_world : World
    next_world = happens t one_world (Accept v now i)

    abbrev other_world : World
    other_world = happen t next_world between

    sound_then : Sound t other_world
    sound_then = happen_sound t between next_world (happens_sound t one_world (Accept v now i) (is_sound t before))

    grows_then : Grows one_world other_world
    grows_then = grows_on one_world next_world other_world (happens_grows t one_world (Accept v now i)) (happen_grows t between next_world)

    owner_is_one : (w later j : ℕ) (c d : Answer) → HasMargin t → Accepts t one_world v now i c → Accepts t other_world w later j d → c.key ≡ d.key → c.found.exp ≡ d.found.exp → c.found.owner ≡ d.found.owner
    owner_is_one w later j c d margin one two keys exps =
        one_owner other_world c d sound_then
        (claimed_grows one_world other_world c grows_then (accepted_is_claimed one_world v now i c margin one))
        (accepted_is_claimed other_world w later j d margin two) keys exps

pub has_one_owner : HasOneOwner
has_one_owner t before between v w now later i j c d margin one two keys exps = owner_is_one t before between v now i w later j c d margin one two keys exps

-- a member knows a use until it expires
Has : List KnownUse → (key : List ℕ) (exp : ℕ) → Type 0
Has uses key exp = (moment : ℕ) → moment < exp → is_used uses key moment ≡ true

-- a member that accepted a token knows its use, or lives another life
abbrev Spent : (life : ℕ) (key : List ℕ) (exp : ℕ) → Member → Type 0
Spent life key exp x = (life < x.life) ⊎ ((x.life ≡ life) × Has x.uses key exp)

has_more : (uses : List KnownUse) (u : KnownUse) (key : List ℕ) (exp : ℕ) → Has uses key exp → Has (u ∷ uses) key exp
unfolding Has
has_more uses u key exp h moment lt = or_right (same u.key key && nat_lt moment u.exp) (is_used uses key moment) (h moment lt)

has_own : (uses : List KnownUse) (key : List ℕ) (exp : ℕ) → Has (record { key = key; exp = exp } ∷ uses) key exp
unfolding Has
has_own uses key exp moment lt = or_left (same key key && nat_lt moment exp) (is_used uses key moment) (and_from (same key key) (nat_lt moment exp) (is_same key key refl) (lt-ltb moment exp lt))

has_is : (uses : List KnownUse) (key : List ℕ) (exp moment : ℕ) → Has uses key exp → moment < exp → is_used uses key moment ≡ true
unfolding Has
has_is uses key exp moment h lt = h moment lt

module _ (t : Terms) (life : ℕ) (key : List ℕ) (exp : ℕ) where
  spent_more : (x : Member) (u : KnownUse) → Spent life key exp x → Spent life key exp (with_use x u)
  spent_more x u (inl lt) = inl lt
  spent_more x u (inr s) = inr (s.0, has_more x.uses u key exp s.1)

  spent_look : (v : ℕ) (x : Member) (now : ℕ) (a : Answer) → Spent life key exp x → Spent life key exp (with_look t v x now a)
  spent_look v x now a (inl lt) = inl lt
  spent_look v x now a (inr s) =
      inr (s.0, cond_both (is_accepted t v x now a) (use_of a ∷ x.uses) x.uses (λ uses. Has uses key exp) (λ _. has_more x.uses (use_of a) key exp s.1) (λ _. s.1))

  spent_next : (x : Member) (moment : ℕ) (uses : List KnownUse) → Spent life key exp x → Spent life key exp (next_life x moment uses)
  spent_next x moment uses (inl lt) = inl (up life x.life lt)
    where
      up : (a b : ℕ) → a < b → a < b + 1
      up a b le = omega arith
  spent_next x moment uses (inr s) = inl (next life x.life s.0)
    where
      next : (a b : ℕ) → b ≡ a → a < b + 1
      next a b is = omega arith

  put_spent : (v : ℕ) (w : World) (n : ℕ) (x : Member) → (Spent life key exp (w.members n) → Spent life key exp x) → Spent life key exp (w.members v) → Spent life key exp ((put_member w n x).members v)
  put_spent v w n x on h = cond_both (v == n) x (w.members v) (Spent life key exp) (λ e. on (subst (λ i. Spent life key exp (w.members i)) (eqb-true v n e) h)) (λ _. h)

  look_spent : (v : ℕ) (w : World) (n now : ℕ) (o : Option Answer) → Spent life key exp (w.members v) → Spent life key exp ((look t w n now o).members v)
  look_spent v w n now None h = h
  look_spent v w n now (Some a) h = put_spent v w n (with_look t n (w.members n) now a) (spent_look n (w.members n) now a) h

  happens_spent : (v : ℕ) (w : World) (event : Event) → Spent life key exp (w.members v) → Spent life key exp ((happens t w event).members v)
  happens_spent v w (Put k owner e time) h = h
  happens_spent v w (Remove k now) h = h
  happens_spent v w (End s entries deaf) h = h
  happens_spent v w (Tick n now) h = put_spent v w n (at_moment (w.members n) now) (λ s. s) h
  happens_spent v w (Accept n now index) h = look_spent v w n now (slice_get w.answers index) h
  happens_spent v w (Tell n u) h = put_spent v w n (with_use (w.members n) u) (spent_more (w.members n) u) h
  happens_spent v w (Restart n moment uses) h = put_spent v w n (next_life (w.members n) moment uses) (spent_next (w.members n) moment uses) h

  happen_spent : (v : ℕ) (events : List Event) (w : World) → Spent life key exp (w.members v) → Spent life key exp ((happen t w events).members v)
  happen_spent v [] w h = h
  happen_spent v (event ∷ events) w h = happen_spent v events (happens t w event) (happens_spent v w event h)

-- what an acceptance leaves of its member
accepted_leaves : (t : Terms) (w : World) (v now i : ℕ) (c : Answer) → Accepts t w v now i c → (happens t w (Accept v now i)).members v ≡ with_look t v (w.members v) now c
accepted_leaves t w v now i c a =
    ap (λ (o : Option Answer). (look t w v now o).members v) a.given
    ∙ cond-true (v == v) (with_look t v (w.members v) now c) (w.members v) (eq-eqb v v refl)

accepted_is_spent : (t : Terms) (w : World) (v now i : ℕ) (c : Answer) → Accepts t w v now i c → Spent (w.members v).life c.key c.found.exp ((happens t w (Accept v now i)).members v)
accepted_is_spent t w v now i c a =
    subst (Spent (w.members v).life c.key c.found.exp) (sym (accepted_leaves t w v now i c a))
    (inr (refl, subst (λ uses. Has uses c.key c.found.exp) (sym (cond-true (is_accepted t v (w.members v) now c) (use_of c ∷ (w.members v).uses) (w.members v).uses a.accepted)) (has_own (w.members v).uses c.key c.found.exp)))

-- a strict member accepts a claim of its own life, of a key that it knows no live use of
record SaysFresh (t : Terms) (v : ℕ) (x : Member) (now : ℕ) (a : Answer) : Type 0 where
  own : a.found.owner ≡ t.owner v x.life a.found.exp
  unused : is_used x.uses a.key (moment_of (t.ahead v) x now a) ≡ false
  live : moment_of (t.ahead v) x now a < a.found.exp

says_fresh : (t : Terms) (w : World) (v now i : ℕ) (a : Answer) → t.strict ≡ true → Accepts t w v now i a → SaysFresh t v (w.members v) now a
says_fresh t w v now i a strict k =
    let x = w.members v in
    let moment = moment_of (t.ahead v) x now a in
    let says = accepted_says t v x now a k.accepted in
    let fresh = sym (cond-true t.strict (is_fresh t v x moment a) true strict) ∙ says.mode in
    let both = and_parts (same a.found.owner (t.owner v x.life a.found.exp)) (not (is_used x.uses a.key moment)) fresh in
    record { own = same_is a.found.owner (t.owner v x.life a.found.exp) both.0; unused = not-true (is_used x.uses a.key moment) both.1; live = says.live }

pub accepted_once : AcceptedOnce
accepted_once t before between v w now later i j c d strict margin owners one two keys exps =
    let a = happen t start before in
    let b = happen t (happens t a (Accept v now i)) between in
    let x = a.members v in
    let y = b.members w in
    let first = says_fresh t a v now i c strict one in
    let second = says_fresh t b w later j d strict two in
    let who = owners v w x.life y.life c.found.exp
    (sym first.own ∙ (has_one_owner t before between v w now later i j c d margin one two keys exps ∙ (second.own ∙ ap (λ e. t.owner w y.life e) (sym exps)))) in
    let spent = happen_spent t x.life c.key c.found.exp v between (happens t a (Accept v now i)) (accepted_is_spent t a v now i c one) in
    by_case x.life y d second (subst (λ n. Spent x.life c.key c.found.exp (b.members n)) who.0 spent) who.1 keys exps
  where
    not_itself : (m n : ℕ) → m < n → m ≡ n → ⊥
    not_itself m n lt is = omega arith

    by_case : (life : ℕ) (y : Member) (d : Answer) → SaysFresh t w y later d → Spent life c.key c.found.exp y → life ≡ y.life → c.key ≡ d.key → c.found.exp ≡ d.found.exp → ⊥
    by_case life y d f (inl lt) is keys exps = not_itself life y.life lt is
    by_case life y d f (inr s) is keys exps =
        true≢false (sym (has_is y.uses d.key d.found.exp (moment_of (t.ahead w) y later d) (subst (λ e. Has y.uses d.key e) exps (subst (λ k. Has y.uses k c.found.exp) keys s.1)) f.live) ∙ f.unused)

-- whatever is put under the key of an accepted claim is answered by that claim, until its time is over
pub accepted_is_found : AcceptedIsFound
accepted_is_found t before between v now i j c d margin one e lt keys epochs early =
    elim ((sound_then t before between v now i).order i j c d ((grows_then t before between v now i).kept i c one.given) e lt keys epochs) [
      | inl found ↦ found
      | inr le ↦ absurd (not_yet (c.found.exp + t.margin) (d.time + t.back) le early)
    ]
  where
    not_yet : (x y : ℕ) → x ≤ y → y < x → ⊥
    not_yet x y le more = omega arith

pub later_is_past : LaterIsPast
later_is_past t before between v w now later i j c d margin one two keys epochs other = (
  λ lt. by_order c d w ((happen t (happens t (happen t start before) (Accept v now i)) between).members w) later (margin w) other
      ((sound_then t before between v now i).order i j c d ((grows_then t before between v now i).kept i c one.given) two.given lt keys epochs),
  λ gt. by_order d c v ((happen t start before).members v) now (margin v) (λ is. other (sym is))
      ((sound_then t before between v now i).order j i d c two.given ((grows_then t before between v now i).kept i c one.given) gt (sym keys) (sym epochs)),
)
  where
    in_front : (m n time ahead back margin exp : ℕ) → ahead + back ≤ margin → exp + margin ≤ time + back → exp ≤ max (max m n) (time - ahead)
    in_front m n time ahead back margin exp le past = omega arith

    by_order : (x y : Answer) (n : ℕ) (member : Member) (time : ℕ) → t.ahead n + t.back ≤ t.margin → (x.found ≡ y.found → ⊥) → (x.found ≡ y.found) ⊎ (x.found.exp + t.margin ≤ y.time + t.back) → x.found.exp ≤ moment_of (t.ahead n) member time y
    by_order x y n member time le ne (inl found) = absurd (ne found)
    by_order x y n member time le ne (inr past) = in_front member.moment time y.time (t.ahead n) t.back t.margin x.found.exp le past

pub withdrawn_is_refused : WithdrawnIsRefused
withdrawn_is_refused t events v now i j c d margin given owner keys long early epochs near accepts =
    by_epochs (accepted_is_claimed t (happen t start events) v now j d margin accepts) (cases_order c.epoch d.epoch)
  where
    not_heard : (exp long deaf : ℕ) → exp ≤ long → long ≤ deaf → deaf < exp → ⊥
    not_heard exp long deaf le more lt = omega arith

    not_below : (x y : ℕ) → x < y → y ≤ x → ⊥
    not_below x y lt le = omega arith

    not_yet : (x y : ℕ) → x ≤ y → y < x → ⊥
    not_yet x y le more = omega arith

    past : (exp time back margin other : ℕ) → exp + margin ≤ time + back → time + back < other + margin → other ≤ exp → ⊥
    past exp time back margin other le lt more = omega arith

    not_withdrawn : Claimed t (happen t start events) d → d.found.owner ≡ withdrawn → ⊥
    not_withdrawn k is = true≢false (sym (is_same d.found.owner withdrawn is) ∙ k.claims)

    by_order : Claimed t (happen t start events) d → c.epoch ≡ d.epoch → (i ≡ j) ⊎ ((i < j) ⊎ (j < i)) → ⊥
    by_order k same_epoch (inl is) =
        not_withdrawn k (ap (λ (x : Answer). x.found.owner) (sym (same_Some c d (sym given ∙ (ap (λ n. slice_get (happen t start events).answers n) is ∙ accepts.given)))) ∙ owner)
    by_order k same_epoch (inr (inl lt)) = elim ((is_sound t events).order i j c d given accepts.given lt keys same_epoch) [
      | inl found ↦ not_withdrawn k (ap (λ (x : Entry). x.owner) (sym found) ∙ owner)
      | inr le ↦ past c.found.exp d.time t.back t.margin d.found.exp le k.alive long
    ]
    by_order k same_epoch (inr (inr gt)) = elim ((is_sound t events).order j i d c accepts.given given gt (sym keys) (sym same_epoch)) [
      | inl found ↦ not_withdrawn k (ap (λ (x : Entry). x.owner) found ∙ owner)
      | inr le ↦ not_yet (d.found.exp + t.margin) (c.time + t.back) le early
    ]

    by_epochs : Claimed t (happen t start events) d → (c.epoch ≡ d.epoch) ⊎ ((c.epoch < d.epoch) ⊎ (d.epoch < c.epoch)) → ⊥
    by_epochs k (inl is) = by_order k is (cases_order i j)
    by_epochs k (inr (inl lt)) = not_heard d.found.exp (c.time + t.lasts) d.deaf (near lt) ((is_sound t events).past i j c d given accepts.given (ap t.shard keys) lt) k.heard
    by_epochs k (inr (inr gt)) = not_below d.epoch c.epoch gt epochs
