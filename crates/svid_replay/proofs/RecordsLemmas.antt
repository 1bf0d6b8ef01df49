use Rattle.std.proofs.Common.{◌≡◌, ℕ, ◌<◌, ◌≤◌, ◌+◌, ◌^◌, max, suc, Bool, true, false, ◌||◌, ◌&&◌, List, [], ◌∷◌, ◌++◌, length, take, drop, get_or, refl, sym, ◌∙◌, ap, subst, arith, cond, not, nat_lt, Contains, Some, None, Result, Ok, Err, OnErr}
use Rattle.std.proofs.lemmas.Bool.{false≢true}
use Rattle.std.proofs.lemmas.Bool.Decides.{nat_tests}
use Rattle.std.proofs.lemmas.List.{take_more, take-append-drop}
use Rattle.std.proofs.lemmas.List.Folds.{list_any-append}
use Rattle.std.proofs.lemmas.List.Elements.{Contains-append_right, recursion_from_All}
use Rattle.std.proofs.Math.Seq.{drop-cons}
use Rattle.std.proofs.lemmas.List.Kept.{IsStrictlySortedBy-filter}
use Rattle.std.specs.List.{AllByRecursion, list_any, filter, prefix_len}
use Rattle.std.specs.List.Sorted.{IsStrictlySortedBy}
use Rattle.std.specs.Ordering.{eq_by_cmp}
use Rattle.std.specs.declared.cmp.Ordering.TheVariants.{Less}
use Rattle.svid_replay.specs.declared.flaw.Flaw.TheVariants.{Expired, Future, Order}
use Rattle.svid_replay.specs.declared.token_use.Use.{Use}
use Rattle.svid_replay.specs.Batches.{BatchData, AllGood, IsBatch, flaw, is_after}
use Rattle.svid_replay.specs.Sets.{holds, keep, rising, with, with_all, union}
use Rattle.svid_replay.specs.Use.{IsRising, IsUse, use_cmp}
use Rattle.svid_replay.specs.Uses.{Uses, no_uses, live}
use Rattle.svid_replay.specs.Records.{State, IsHeldAt, IsRecord, IsPartlyJoined, HasNoNew, join, state_of, JoinHoldsUnexpired, JoinIsCommutative, JoinIsAssociative, JoinIsIdempotent, JoinIsClosed}
use Rattle.svid_replay.proofs.BatchesLemmas.{made_at}
use Rattle.svid_replay.proofs.ListLemmas.{found}
use Rattle.svid_replay.proofs.MergeLemmas.{below_all}
use Rattle.svid_replay.proofs.SetsLemmas.{holds-keep, holds-with, holds-with_all}
use Rattle.svid_replay.proofs.UseLemmas.{use_total, use_exact}
use Rattle.svid_replay.proofs.UsesLemmas.{any-filter, drop-expired, rising_has_held, holds-uses_in, holds-live, holds-union, same_uses, uses_in-rising}
use Rattle.svid_replay.proofs.TestsLemmas.{equal, is_less, or-true, or-false, or-comm, and-false, and-comm}

same_state : (a b : State) → a.moment ≡ b.moment → a.uses ≡ b.uses → a ≡ b
same_state a b m u = λ i. record { moment = m i; uses = u i }

-- tests
lt-max : (m n e : ℕ) → nat_lt (max m n) e ≡ (nat_lt m e && nat_lt n e)
lt-max m n e = grind (arith, nat_tests)

both_true : (a b : Bool) → (a && b) ≡ true → (a ≡ true) × (b ≡ true)
both_true true b e = (refl, e)
both_true false b e = absurd (false≢true e)

three : (la lb lc ha hb hc : Bool) → (((la && lb) && lc) && (hc || ((la && lb) && (hb || ha)))) ≡ ((la && (lb && lc)) && (((lb && lc) && (hc || hb)) || ha))
three false lb lc ha hb hc = refl
three true false lc ha hb hc = refl
three true true false ha hb hc = refl
three true true true ha hb true = refl
three true true true ha hb false = refl

-- what a join holds
pub moment-join : (a b : State) → (join a b).moment ≡ max a.moment b.moment
unfolding join
moment-join a b = refl

pub holds-join : (a b : State) (u : Use) → holds (join a b).uses u ≡ (nat_lt (max a.moment b.moment) u.exp && (holds b.uses u || holds a.uses u))
unfolding join
holds-join a b u =
    holds-live (union a.uses b.uses) (max a.moment b.moment) u ∙ ap (λ h. nat_lt (max a.moment b.moment) u.exp && h) (holds-union a.uses b.uses u)

pub join_holds_unexpired : JoinHoldsUnexpired
join_holds_unexpired a b u =
    holds-join a b u ∙ and-comm (nat_lt (max a.moment b.moment) u.exp) (holds b.uses u || holds a.uses u) ∙ ap (λ h. h && nat_lt (max a.moment b.moment) u.exp) (or-comm (holds b.uses u) (holds a.uses u))

-- a moment and a set are a join if they agree with it on each use
pub is_join : (a b s : State) → s.moment ≡ max a.moment b.moment → ((u : Use) → holds s.uses u ≡ (nat_lt (max a.moment b.moment) u.exp && (holds b.uses u || holds a.uses u))) → s ≡ join a b
is_join a b s m is = same_state s (join a b) (m ∙ sym (moment-join a b)) (same_uses s.uses (join a b).uses (λ u. is u ∙ sym (holds-join a b u)))

pub join_comm : JoinIsCommutative
join_comm a b =
    let turned : max a.moment b.moment ≡ max b.moment a.moment = omega arith in
    is_join b a (join a b) (moment-join a b ∙ turned) (λ u. holds-join a b u ∙ ap (λ n. nat_lt n u.exp && (holds b.uses u || holds a.uses u)) turned ∙ ap (λ h. nat_lt (max b.moment a.moment) u.exp && h) (or-comm (holds b.uses u) (holds a.uses u)))

pub join_assoc : JoinIsAssociative
join_assoc a b c =
    let ab = join a b in
    let bc = join b c in
    let same : max (max a.moment b.moment) c.moment ≡ max a.moment (max b.moment c.moment) = omega arith in
    is_join a bc (join ab c) (moment-join ab c ∙ ap (λ n. max n c.moment) (moment-join a b) ∙ same ∙ sym (ap (max a.moment) (moment-join b c))) (λ u.
    let e = u.exp in
    let la = nat_lt a.moment e in
    let lb = nat_lt b.moment e in
    let lc = nat_lt c.moment e in
    let ha = holds a.uses u in
    let hb = holds b.uses u in
    let hc = holds c.uses u in
    let lab : nat_lt ab.moment e ≡ (la && lb) = ap (λ n. nat_lt n e) (moment-join a b) ∙ lt-max a.moment b.moment e in
    let lbc : nat_lt bc.moment e ≡ (lb && lc) = ap (λ n. nat_lt n e) (moment-join b c) ∙ lt-max b.moment c.moment e in
    let left : holds (join ab c).uses u ≡ (((la && lb) && lc) && (hc || ((la && lb) && (hb || ha)))) =
    holds-join ab c u ∙ ap (λ l. l && (hc || holds ab.uses u)) (lt-max ab.moment c.moment e ∙ ap (λ l. l && lc) lab)
    ∙ ap (λ h. ((la && lb) && lc) && (hc || h)) (holds-join a b u ∙ ap (λ l. l && (hb || ha)) (lt-max a.moment b.moment e)) in
    let right : (nat_lt (max a.moment bc.moment) e && (holds bc.uses u || ha)) ≡ ((la && (lb && lc)) && (((lb && lc) && (hc || hb)) || ha)) =
    ap (λ l. l && (holds bc.uses u || ha)) (lt-max a.moment bc.moment e ∙ ap (λ l. la && l) lbc)
    ∙ ap (λ h. (la && (lb && lc)) && (h || ha)) (holds-join b c u ∙ ap (λ l. l && (hc || hb)) (lt-max b.moment c.moment e)) in
    left ∙ three la lb lc ha hb hc ∙ sym right)

-- records
live_if_held : (r : State) (u : Use) → IsRecord r → (h : Bool) → holds r.uses u ≡ h → (nat_lt r.moment u.exp && (h || h)) ≡ h
live_if_held r u is true e = let later : r.moment < u.exp = (is.each u e).live in let test : nat_lt r.moment u.exp ≡ true = grind (arith, nat_tests) in ap (λ l. l && true) test
live_if_held r u is false e = and-false (nat_lt r.moment u.exp)

pub join_self : JoinIsIdempotent
join_self a is =
    let same : max a.moment a.moment ≡ a.moment = omega arith in
    sym (is_join a a a (sym same) (λ u. sym (ap (λ n. nat_lt n u.exp && (holds a.uses u || holds a.uses u)) same ∙ live_if_held a u is (holds a.uses u) refl)))

of_either : (a b : State) (u : Use) (n : ℕ) → IsRecord a → IsRecord b → a.moment ≤ n → b.moment ≤ n → n < u.exp → (h : Bool) → holds b.uses u ≡ h → (h || holds a.uses u) ≡ true → IsHeldAt n u
of_either a b u n is_a is_b le_a le_b later true e any =
    let held = is_b.each u e in record { fields = held.fields; made = let made : u.at ≤ b.moment = held.made in omega arith; live = later }
of_either a b u n is_a is_b le_a le_b later false e any =
    let held = is_a.each u any in record { fields = held.fields; made = let made : u.at ≤ a.moment = held.made in omega arith; live = later }

pub join_closed : JoinIsClosed
join_closed a b is_a is_b = record {
  moment = let ma : a.moment < 2 ^ 64 = is_a.moment in let mb : b.moment < 2 ^ 64 = is_b.moment in omega (arith, moment-join a b);
  each = λ u held.
      let parts = both_true (nat_lt (max a.moment b.moment) u.exp) (holds b.uses u || holds a.uses u) (sym (holds-join a b u) ∙ held) in
      let later : max a.moment b.moment < u.exp = let test = parts.0 in grind (arith, nat_tests) in
      subst (λ n. IsHeldAt n u) (sym (moment-join a b)) (of_either a b u (max a.moment b.moment) is_a is_b (omega arith) (omega arith) later (holds b.uses u) refl parts.1);
}

-- what the calls of a record join
holds-state_of : (moment : ℕ) (us : List Use) (u : Use) → holds (state_of moment us).uses u ≡ list_any (eq_by_cmp use_cmp u) us
holds-state_of moment us u = holds-uses_in us u

pub nothing_held : (moment : ℕ) → moment < 2 ^ 64 → IsRecord (state_of moment [])
nothing_held moment fits = record { moment = fits; each = λ u held. absurd (false≢true (sym (holds-state_of moment [] u) ∙ held)) }

pub new_is_record : (s : Uses) → s ≡ no_uses → IsRecord (record { moment = 0; uses = s })
new_is_record s e = subst (λ (t : Uses). IsRecord (record { moment = 0; uses = t })) (sym e) (nothing_held 0 (omega arith))

pub raised : (r : State) (now moment : ℕ) (s : Uses) → moment ≡ max r.moment now → s ≡ live r.uses moment → record { moment = moment; uses = s } ≡ join r (state_of now [])
raised r now moment s m kept =
    is_join r (state_of now []) (record { moment = moment; uses = s }) m (λ u.
    ap (λ t. holds t u) kept ∙ holds-live r.uses moment u ∙ ap (λ n. nat_lt n u.exp && holds r.uses u) m ∙ ap (λ h. nat_lt (max r.moment now) u.exp && (h || holds r.uses u)) (sym (holds-state_of now [] u)))

pub raised_is_record : (r : State) (now moment : ℕ) (s : Uses) → IsRecord r → now < 2 ^ 64 → moment ≡ max r.moment now → s ≡ live r.uses moment → IsRecord (record { moment = moment; uses = s })
raised_is_record r now moment s is fits m kept = subst IsRecord (sym (raised r now moment s m kept)) (join_closed r (state_of now []) is (nothing_held now fits))

still_live : (r : State) (u : Use) → IsRecord r → (h : Bool) → holds r.uses u ≡ h → (nat_lt r.moment u.exp && h) ≡ h
still_live r u is true e = let later : r.moment < u.exp = (is.each u e).live in let test : nat_lt r.moment u.exp ≡ true = grind (arith, nat_tests) in ap (λ l. l && true) test
still_live r u is false e = and-false (nat_lt r.moment u.exp)

-- joining a record with its own moment changes nothing
pub raised_to_own : (r : State) → IsRecord r → join r (state_of r.moment []) ≡ r
raised_to_own r is =
    sym (raised r r.moment r.moment r.uses (omega arith) (same_uses r.uses (live r.uses r.moment) (λ u. sym (holds-live r.uses r.moment u ∙ still_live r u is (holds r.uses u) refl))))

-- a record keeps some of its uses
pub kept_is_record : (test : Use → Bool) (r : State) → IsRecord r → IsRecord (record { moment = r.moment; uses = keep test r.uses })
kept_is_record test r is = record {
  moment = is.moment;
  each = λ u held. is.each u (both_true (test u) (holds r.uses u) (sym (holds-keep use_total use_exact test r.uses u) ∙ held)).1;
}

only_one : (moment : ℕ) (u : Use) → moment < 2 ^ 64 → IsHeldAt moment u → IsRecord (state_of moment (u ∷ []))
only_one moment u fits is = record {
  moment = fits;
  each = λ v held. let tied : eq_by_cmp use_cmp v u ≡ true = sym (or-false (eq_by_cmp use_cmp v u)) ∙ sym (holds-state_of moment (u ∷ []) v) ∙ held in subst (IsHeldAt moment) (sym (use_exact v u (equal (use_cmp v u) tied))) is;
}

-- a use that is live at the record's moment is added
taken_live : (r : State) (u v : Use) → IsRecord r → nat_lt r.moment u.exp ≡ true → (t h : Bool) → eq_by_cmp use_cmp v u ≡ t → holds r.uses v ≡ h → (t || h) ≡ (nat_lt r.moment v.exp && ((t || false) || h))
taken_live r u v is later true h e held = sym (ap (λ l. l && true) (ap (λ (w : Use). nat_lt r.moment w.exp) (use_exact v u (equal (use_cmp v u) e)) ∙ later))
taken_live r u v is later false true e held = let after : r.moment < v.exp = (is.each v held).live in let test : nat_lt r.moment v.exp ≡ true = grind (arith, nat_tests) in sym (ap (λ l. l && true) test)
taken_live r u v is later false false e held = sym (and-false (nat_lt r.moment v.exp))

-- a use that is not live at the record's moment changes nothing
passed_live : (r : State) (u v : Use) → IsRecord r → nat_lt r.moment u.exp ≡ false → (t h : Bool) → eq_by_cmp use_cmp v u ≡ t → holds r.uses v ≡ h → h ≡ (nat_lt r.moment v.exp && ((t || false) || h))
passed_live r u v is expired_by t true e held =
    let after : r.moment < v.exp = (is.each v held).live in
    let test : nat_lt r.moment v.exp ≡ true = grind (arith, nat_tests) in
    sym (ap (λ l. l && ((t || false) || true)) test ∙ or-true (t || false))
passed_live r u v is expired_by true false e held = sym (ap (λ l. l && true) (ap (λ (w : Use). nat_lt r.moment w.exp) (use_exact v u (equal (use_cmp v u) e)) ∙ expired_by))
passed_live r u v is expired_by false false e held = sym (and-false (nat_lt r.moment v.exp))

at_same : (r : State) (u v : Use) → (nat_lt r.moment v.exp && ((eq_by_cmp use_cmp v u || false) || holds r.uses v)) ≡ (nat_lt (max r.moment r.moment) v.exp && (holds (state_of r.moment (u ∷ [])).uses v || holds r.uses v))
at_same r u v =
    let same : r.moment ≡ max r.moment r.moment = omega arith in
    ap (λ n. nat_lt n v.exp && ((eq_by_cmp use_cmp v u || false) || holds r.uses v)) same ∙ ap (λ h. nat_lt (max r.moment r.moment) v.exp && (h || holds r.uses v)) (sym (holds-state_of r.moment (u ∷ []) v))

pub taken : (r : State) (u : Use) (s : Uses) → IsRecord r → nat_lt r.moment u.exp ≡ true → s ≡ with r.uses u → record { moment = r.moment; uses = s } ≡ join r (state_of r.moment (u ∷ []))
taken r u s is later grown =
    is_join r (state_of r.moment (u ∷ [])) (record { moment = r.moment; uses = s }) (omega arith) (λ v.
    ap (λ t. holds t v) grown ∙ holds-with use_total use_exact r.uses u v ∙ taken_live r u v is later (eq_by_cmp use_cmp v u) (holds r.uses v) refl refl ∙ at_same r u v)

pub passed : (r : State) (u : Use) → IsRecord r → nat_lt r.moment u.exp ≡ false → r ≡ join r (state_of r.moment (u ∷ []))
passed r u is expired_by = is_join r (state_of r.moment (u ∷ [])) r (omega arith) (λ v. passed_live r u v is expired_by (eq_by_cmp use_cmp v u) (holds r.uses v) refl refl ∙ at_same r u v)

pub taken_is_record : (r : State) (u : Use) (s : Uses) → IsRecord r → IsUse u → u.at ≤ r.moment → nat_lt r.moment u.exp ≡ true → s ≡ with r.uses u → IsRecord (record { moment = r.moment; uses = s })
taken_is_record r u s is fields made later grown =
    let after : r.moment < u.exp = grind (arith, nat_tests) in
    subst IsRecord (sym (taken r u s is later grown)) (join_closed r (state_of r.moment (u ∷ [])) is (only_one r.moment u is.moment (record { fields = fields; made = made; live = after })))

-- one use after the other
pushed : (l front t h : Bool) → (l && ((t || false) || (l && (front || h)))) ≡ (l && ((front || (t || false)) || h))
pushed false front t h = refl
pushed true true true h = refl
pushed true true false h = refl
pushed true false true h = refl
pushed true false false h = refl

pub joined_push : (old self new : State) (moment : ℕ) (front : List Use) (u : Use) → self ≡ join old (state_of moment front) → new ≡ join self (state_of self.moment (u ∷ [])) → new ≡ join old (state_of moment (front ++ u ∷ []))
joined_push old self new moment front u so_far e =
    let k = max old.moment moment in
    let here : self.moment ≡ k = ap (λ (r : State). r.moment) so_far ∙ moment-join old (state_of moment front) in
    let twice : max self.moment self.moment ≡ k = omega (arith, here) in
    e ∙ is_join old (state_of moment (front ++ u ∷ [])) (join self (state_of self.moment (u ∷ []))) (moment-join self (state_of self.moment (u ∷ [])) ∙ twice) (λ v.
    let tied = eq_by_cmp use_cmp v in
    holds-join self (state_of self.moment (u ∷ [])) v ∙ ap (λ n. nat_lt n v.exp && (holds (state_of self.moment (u ∷ [])).uses v || holds self.uses v)) twice
    ∙ ap (λ h. nat_lt k v.exp && (h || holds self.uses v)) (holds-state_of self.moment (u ∷ []) v)
    ∙ ap (λ h. nat_lt k v.exp && ((tied u || false) || h)) (ap (λ (r : State). holds r.uses v) so_far ∙ holds-join old (state_of moment front) v ∙ ap (λ h. nat_lt k v.exp && (h || holds old.uses v)) (holds-state_of moment front v))
    ∙ pushed (nat_lt k v.exp) (list_any tied front) (tied u) (holds old.uses v)
    ∙ ap (λ h. nat_lt k v.exp && (h || holds old.uses v)) (sym (holds-state_of moment (front ++ u ∷ []) v ∙ list_any-append tied front (u ∷ []))))

-- where the next use was refused
pub partly : (old self new : State) (moment : ℕ) (us front rest : List Use) (u : Use) → us ≡ front ++ u ∷ rest → self ≡ join old (state_of moment front) → new ≡ self → (self.moment < u.exp) × (holds self.uses u ≡ false) → IsPartlyJoined old new moment us
partly old self new moment us front rest u parts so_far same refused = record {
  front = front;
  refused = u;
  rest = rest;
  parts = parts;
  joined = same ∙ so_far;
  live = subst (λ (r : State). r.moment < u.exp) (sym same) refused.0;
  absent = ap (λ (r : State). holds r.uses u) same ∙ refused.1;
}

pub refused_is_new : (old new : State) (moment : ℕ) (us : List Use) → IsPartlyJoined old new moment us → HasNoNew old moment us → ⊥
refused_is_new old new moment us part none =
    let u = part.refused in
    let k : new.moment ≡ max old.moment moment = ap (λ (r : State). r.moment) part.joined ∙ moment-join old (state_of moment part.front) in
    let later : max old.moment moment < u.exp = subst (λ n. n < u.exp) k part.live in
    let had : holds old.uses u ≡ true = none u (subst (λ xs. Contains xs u) (sym part.parts) (Contains-append_right part.front (u ∷ part.rest) u (0, omega arith, refl))) later in
    let test : nat_lt (max old.moment moment) u.exp ≡ true = grind (arith, nat_tests) in
    false≢true (sym part.absent ∙ ap (λ (r : State). holds r.uses u) part.joined ∙ holds-join old (state_of moment part.front) u ∙ ap (λ l. l && (holds (state_of moment part.front).uses u || holds old.uses u)) test ∙ ap (λ h. holds (state_of moment part.front).uses u || h) had ∙ or-true (holds (state_of moment part.front).uses u))

pub on_err : {X Y : Type 0} (r : Result X Y) (P : Type 0) → P → OnErr r P
on_err (Ok x) P p = tt
on_err (Err y) P p = p

-- the loop over a batch
pub absorbs_more : (old self new : State) (moment : ℕ) (us : List Use) (i : ℕ) (d : Use) → i < length us → self ≡ join old (state_of moment (take i us)) → new ≡ join self (state_of self.moment (get_or us i d ∷ [])) → new ≡ join old (state_of moment (take (i + 1) us))
absorbs_more old self new moment us i d within so_far e =
    joined_push old self new moment (take i us) (get_or us i d) so_far e ∙ ap (λ front. join old (state_of moment front)) (sym (take_more us i d within))

pub absorb_refused : (old self new : State) (b : BatchData) (us : List Use) (i : ℕ) (d : Use) → us ≡ b.uses → i < length us → self ≡ join old (state_of b.moment (take i us)) → new ≡ self → (self.moment < (get_or us i d).exp) × (holds self.uses (get_or us i d) ≡ false) → IsPartlyJoined old new b.moment b.uses
absorb_refused old self new b us i d e within so_far same refused =
    partly old self new b.moment b.uses (take i us) (drop (suc i) us) (get_or us i d) (sym e ∙ sym (take-append-drop i us) ∙ ap (λ r. take i us ++ r) (drop-cons us i d within)) so_far same refused

-- the walk over another record
pub merged : (old self other : State) (front : List Use) → self ≡ join old (state_of other.moment front) → rising other.uses ≡ front → self ≡ join old other
merged old self other front so_far all =
    so_far ∙ ap (λ us. join old (state_of other.moment us)) (sym all) ∙ ap (λ (s : Uses). join old (record { moment = other.moment; uses = s })) (uses_in-rising other.uses)

pub made_before : (r : State) (old self : State) (front rest : List Use) (u : Use) → IsRecord r → self ≡ join old (state_of r.moment front) → rising r.uses ≡ front ++ u ∷ rest → u.at ≤ self.moment
made_before r old self front rest u is so_far parts =
    let has : holds r.uses u ≡ true = (rising_has_held r.uses u).1 (subst (λ us. Contains us u) (sym parts) (Contains-append_right front (u ∷ rest) u (0, omega arith, refl))) in
    let made : u.at ≤ r.moment = (is.each u has).made in
    omega (arith, ap (λ (s : State). s.moment) so_far, moment-join old (state_of r.moment front))

pub made_in_batch : (old self : State) (b : BatchData) (us : List Use) (i : ℕ) (d : Use) → IsBatch b → us ≡ b.uses → i < length us → self ≡ join old (state_of b.moment (take i us)) → (get_or us i d).at ≤ self.moment
made_in_batch old self b us i d is e within so_far =
    let made : (get_or us i d).at ≤ b.moment = made_at b.moment None us i d (subst (AllGood b.moment None) (sym e) is.good) within in
    omega (arith, ap (λ (s : State). s.moment) so_far, moment-join old (state_of b.moment (take i us)))

-- lists of uses, one after the other
behind : (l front t h : Bool) → (l && (t || (l && (front || h)))) ≡ (l && ((front || t) || h))
behind false front t h = refl
behind true true true h = refl
behind true true false h = refl
behind true false true h = refl
behind true false false h = refl

-- joining uses of one moment one list after the other is joining them at once
pub join_lists : (old : State) (moment : ℕ) (front us : List Use) → join (join old (state_of moment front)) (state_of moment us) ≡ join old (state_of moment (front ++ us))
join_lists old moment front us =
    let self = join old (state_of moment front) in
    let k = max old.moment moment in
    let here : self.moment ≡ k = moment-join old (state_of moment front) in
    let twice : max self.moment moment ≡ k = omega (arith, here) in
    is_join old (state_of moment (front ++ us)) (join self (state_of moment us)) (moment-join self (state_of moment us) ∙ twice) (λ v.
    let tied = eq_by_cmp use_cmp v in
    holds-join self (state_of moment us) v ∙ ap (λ n. nat_lt n v.exp && (holds (state_of moment us).uses v || holds self.uses v)) twice
    ∙ ap (λ h. nat_lt k v.exp && (h || holds self.uses v)) (holds-state_of moment us v)
    ∙ ap (λ h. nat_lt k v.exp && (list_any tied us || h)) (holds-join old (state_of moment front) v ∙ ap (λ h. nat_lt k v.exp && (h || holds old.uses v)) (holds-state_of moment front v))
    ∙ behind (nat_lt k v.exp) (list_any tied front) (list_any tied us) (holds old.uses v)
    ∙ ap (λ h. nat_lt k v.exp && (h || holds old.uses v)) (sym (holds-state_of moment (front ++ us) v ∙ list_any-append tied front us)))

none_before : (r : State) (u : Use) → IsRecord r → (h : Bool) → holds r.uses u ≡ h → h ≡ (nat_lt r.moment u.exp && (h || false))
none_before r u is true e = let later : r.moment < u.exp = (is.each u e).live in let test : nat_lt r.moment u.exp ≡ true = grind (arith, nat_tests) in sym (ap (λ l. l && true) test)
none_before r u is false e = sym (and-false (nat_lt r.moment u.exp))

-- a new record joined with a record is that record
pub join_new : (r : State) → IsRecord r → join (state_of 0 []) r ≡ r
join_new r is =
    let same : r.moment ≡ max 0 r.moment = omega arith in
    sym (is_join (state_of 0 []) r r same (λ u. none_before r u is (holds r.uses u) refl ∙ ap (λ n. nat_lt n u.exp && (holds r.uses u || false)) same ∙ ap (λ h. nat_lt (max 0 r.moment) u.exp && (holds r.uses u || h)) (sym (holds-state_of 0 [] u))))

-- the uses of a batch at once
no_flaw_after : (live future after : Bool) → cond live (Some Expired) (cond future (Some Future) (cond after None (Some Order))) ≡ None → after ≡ true
no_flaw_after true future after e = cc
no_flaw_after false true after e = cc
no_flaw_after false false true e = refl
no_flaw_after false false false e = cc

good_follow : (m : ℕ) (u : Use) (us : List Use) → AllGood m (Some u) us → AllByRecursion (λ v. use_cmp u v ≡ Less) us × IsRising us
unfolding IsStrictlySortedBy flaw
good_follow m u [] good = (tt, tt)
good_follow m u (v ∷ vs) good =
    let less : use_cmp u v ≡ Less = is_less (use_cmp u v) (no_flaw_after (not (nat_lt m v.exp)) (nat_lt m v.at) (is_after (Some u) v) good.0) in
    let rest = good_follow m v vs good.1 in
    (below_all use_total use_exact u v vs less rest.0, rest)

-- good uses rise
pub good_rises : (m : ℕ) (us : List Use) → AllGood m None us → IsRising us
unfolding IsStrictlySortedBy
good_rises m [] good = tt
good_rises m (u ∷ us) good = good_follow m u us good.1

-- those of a batch's uses that are not expired were also made by a later moment
pub good_made : (m later : ℕ) (us : List Use) → m ≤ later → AllGood m None us → AllByRecursion (λ u. u.at ≤ later) us
good_made m later us le good = recursion_from_All _ us (λ k d h. let made : (get_or us k d).at ≤ m = made_at m None us k d good h in omega arith)

held_live : (m : ℕ) (us : List Use) → AllByRecursion IsUse us → AllByRecursion (λ u. u.at ≤ m) us → AllByRecursion (IsHeldAt m) (filter (λ u. nat_lt m u.exp) us)
held_live m [] fields made = tt
held_live m (u ∷ us) fields made = elim (nat_lt m u.exp) as (λ b. nat_lt m u.exp ≡ b → AllByRecursion (IsHeldAt m) (cond b (u ∷ filter (λ v. nat_lt m v.exp) us) (filter (λ v. nat_lt m v.exp) us))) [
  | true ↦ λ e. let later : m < u.exp = grind (arith, nat_tests) in (record { fields = fields.0; made = made.0; live = later }, held_live m us fields.1 made.1)
  | false ↦ λ e. held_live m us fields.1 made.1
] refl

live_of_both : (l a h : Bool) → (l && h) ≡ h → ((l && a) || h) ≡ (l && (a || h))
live_of_both true a h e = refl
live_of_both false a h e = sym e

-- a record with those of the uses that are live at its moment
pub record IsTakenAll (r new : State) (us : List Use) : Type 0 where
  pub is : IsRecord new
  pub joined : new ≡ join r (state_of r.moment us)

pub taken_all : (r : State) (us ls : List Use) (s : Uses) → IsRecord r → AllByRecursion IsUse us → AllByRecursion (λ u. u.at ≤ r.moment) us → ls ≡ filter (λ u. nat_lt r.moment u.exp) us → s ≡ with_all r.uses ls → IsTakenAll r (record { moment = r.moment; uses = s }) us
taken_all r us ls s is fields made live grown =
    let m = r.moment in
    let same : m ≡ max m m = omega arith in
    let held = subst (AllByRecursion (IsHeldAt m)) (sym live) (held_live m us fields made) in
    record {
      is = record {
        moment = is.moment;
        each = λ v has.
            let tie = eq_by_cmp use_cmp v in
            elim (list_any tie ls) as (λ b. list_any tie ls ≡ b → (b || holds r.uses v) ≡ true → IsHeldAt m v) [
              | true ↦ λ e _. found (IsHeldAt m) tie (IsHeldAt m v) ls held e (λ u h t. subst (IsHeldAt m) (sym (use_exact v u (equal _ t))) h)
              | false ↦ λ e old. is.each v old
            ] refl (sym (ap (λ t. holds t v) grown ∙ holds-with_all use_total use_exact r.uses ls v) ∙ has);
      };
      joined = is_join r (state_of m us) (record { moment = m; uses = s }) same (λ v.
          let tie = eq_by_cmp use_cmp v in
          ap (λ t. holds t v) grown ∙ holds-with_all use_total use_exact r.uses ls v ∙ ap (λ l. list_any tie l || holds r.uses v) live ∙ ap (λ b. b || holds r.uses v) (any-filter (λ u. nat_lt m u.exp) v us)
          ∙ live_of_both (nat_lt m v.exp) (list_any tie us) (holds r.uses v) (still_live r v is (holds r.uses v) refl)
          ∙ ap (λ n. nat_lt n v.exp && (list_any tie us || holds r.uses v)) same ∙ ap (λ h. nat_lt (max m m) v.exp && (h || holds r.uses v)) (sym (holds-state_of m us v)));
    }

at_once : (l t h : Bool) → (l && (t || (l && h))) ≡ (l && (t || h))
at_once true t h = refl
at_once false t h = refl

-- a record joined with a moment, and then with all uses of a batch
pub absorbed_at_once : (old self new : State) (moment : ℕ) (us : List Use) → self ≡ join old (state_of moment []) → new ≡ join self (state_of self.moment us) → new ≡ join old (state_of moment us)
absorbed_at_once old self new moment us raise e =
    let k = max old.moment moment in
    let here : self.moment ≡ k = ap (λ (r : State). r.moment) raise ∙ moment-join old (state_of moment []) in
    let twice : max self.moment self.moment ≡ k = omega (arith, here) in
    e ∙ is_join old (state_of moment us) (join self (state_of self.moment us)) (moment-join self (state_of self.moment us) ∙ twice) (λ v.
    let tied = eq_by_cmp use_cmp v in
    holds-join self (state_of self.moment us) v ∙ ap (λ n. nat_lt n v.exp && (holds (state_of self.moment us).uses v || holds self.uses v)) twice
    ∙ ap (λ h. nat_lt k v.exp && (h || holds self.uses v)) (holds-state_of self.moment us v)
    ∙ ap (λ h. nat_lt k v.exp && (list_any tied us || h)) (ap (λ (r : State). holds r.uses v) raise ∙ holds-join old (state_of moment []) v ∙ ap (λ h. nat_lt k v.exp && (h || holds old.uses v)) (holds-state_of moment [] v))
    ∙ at_once (nat_lt k v.exp) (list_any tied us) (holds old.uses v)
    ∙ ap (λ h. nat_lt k v.exp && (h || holds old.uses v)) (sym (holds-state_of moment us v)))

-- a record after the attempt to add all the uses: it has them, or it is as it was
pub record IsTakenOrNot (moment : ℕ) (s : Uses) (self : State) (us : List Use) (all : Bool) : Type 0 where
  pub is : IsRecord (record { moment = moment; uses = s })
  pub joined : all ≡ true → record { moment = moment; uses = s } ≡ join self (state_of self.moment us)

pub live_rises : (m : ℕ) (us live : List Use) (n : ℕ) → IsRising us → n ≡ prefix_len (λ u. not (nat_lt m u.exp)) us → live ≡ drop n us → IsRising live
live_rises m us live n up front e =
    subst IsRising (sym (e ∙ ap (λ k. drop k us) front ∙ drop-expired m us up)) (IsStrictlySortedBy-filter use_cmp (λ u. nat_lt m u.exp) us up)

pub taken_or_not : (moment : ℕ) (had s : Uses) (self : State) (us live : List Use) (n : ℕ) (all : Bool) → IsRecord (record { moment = moment; uses = had }) → record { moment = moment; uses = had } ≡ self
    → IsRising us → AllByRecursion IsUse us → AllByRecursion (λ u. u.at ≤ self.moment) us → n ≡ prefix_len (λ u. not (nat_lt moment u.exp)) us → live ≡ drop n us
    → (all ≡ true → s ≡ with_all had live) → (all ≡ false → s ≡ had) → IsTakenOrNot moment s self us all
taken_or_not moment had s self us live n all is view up fields made front e taken not_taken =
    let r : State = record { moment = moment; uses = had } in
    let made_here : AllByRecursion (λ u. u.at ≤ r.moment) us = subst (λ (t : State). AllByRecursion (λ u. u.at ≤ t.moment) us) (sym view) made in
    let are : live ≡ filter (λ u. nat_lt moment u.exp) us = e ∙ ap (λ k. drop k us) front ∙ drop-expired moment us up in
    let all_in = λ (h : all ≡ true). taken_all r us live s is fields made_here are (taken h) in
    record {
      is = elim all as (λ b. all ≡ b → IsRecord (record { moment = moment; uses = s })) [
        | true ↦ λ h. (all_in h).is
        | false ↦ λ h. subst (λ (t : Uses). IsRecord (record { moment = moment; uses = t })) (sym (not_taken h)) is
      ] refl;
      joined = λ h. (all_in h).joined ∙ ap (λ (t : State). join t (state_of t.moment us)) view;
    }

-- the uses of a batch were made by the moment of a record that was advanced to it
pub made_by_raised : (old self : State) (b : BatchData) (us : List Use) → IsBatch b → us ≡ b.uses → self ≡ join old (state_of b.moment []) → AllByRecursion (λ u. u.at ≤ self.moment) us
made_by_raised old self b us is e raise =
    let later : b.moment ≤ self.moment = omega (arith, ap (λ (r : State). r.moment) raise, moment-join old (state_of b.moment [])) in
    good_made b.moment self.moment us later (subst (AllGood b.moment None) (sym e) is.good)
