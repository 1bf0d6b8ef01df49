-- A member holds something of each use that it read, until the use expires.
use Rattle.std.proofs.Common.{◌≡◌, ◌⊎◌, inl, inr, ℕ, ◌<◌, ◌≤◌, max, Bool, true, false, ◌||◌, ◌&&◌, nat_lt, List, [], ◌∷◌, refl, sym, ap, ◌∙◌, subst, arith}
use Rattle.std.specs.Prelude.{IsTrue}
use Rattle.std.specs.List.{list_any}
use Rattle.std.specs.Cmp.{Equal-is}
use Rattle.std.specs.Ordering.{eq_by_cmp, is_eq}
use Rattle.std.proofs.lemmas.Bool.{and_from, and_parts, cases_Bool, cases_lt, cond_both, cond-true, false≢true, ltb-false, ltb-true, lt-ltb, or_cases, or_left, or_right, true≢false}
use Rattle.std.proofs.lemmas.Cmp.{nat_list_cmp_total, tied_itself}
use Rattle.std.proofs.lemmas.List.Elements.{recursion_from_All}
use Rattle.std.proofs.lemmas.Map.Views.{Contains-from_any}
use Rattle.svid_replay.specs.declared.token_use.Use.{Use}
use Rattle.svid_replay.specs.Buckets.{raised_to}
use Rattle.svid_replay.specs.Records.{IsRecord, State, join, state_of}
use Rattle.svid_replay.specs.Sets.{holds, rising, with}
use Rattle.svid_replay.specs.Twice.{has_key, withdraws}
use Rattle.svid_replay.specs.Use.{IsUse, bytes_cmp, use_cmp}
use Rattle.svid_replay.specs.Uses.{Uses, has_use_of, has_withdrawal_of, live, no_uses}
use Rattle.svid_replay.proofs.IndexedLemmas.{same_key}
use Rattle.svid_replay.proofs.ListLemmas.{any_in, found}
use Rattle.svid_replay.proofs.RecordsLemmas.{holds-join, moment-join}
use Rattle.svid_replay.proofs.SetsLemmas.{holds-rising}
use Rattle.svid_replay.proofs.UseLemmas.{use_exact, use_total}
use Rattle.svid_replay.proofs.UsesLemmas.{held_in_rising, holds-live, holds-uses_in, no_uses_hold_none, same_uses, with_holds_one_more}
use Rattle.svid_log.specs.declared.fate.Fate.{Fate}
use Rattle.svid_log.specs.declared.fate.Fate.TheVariants.{Accepted, First, Expired, TooFarAhead, Withdrawal, Withdrawn, Replayed}
use Rattle.svid_log.specs.Steps.{AreSound, IsSound, beside_after, beside_by, counts, fate_at, fate_by, gains_by, held_after, is_early, passing, put_beside, reached}

-- uses that compare as equal are the same
pub same_use : (u v : Use) → eq_by_cmp use_cmp u v ≡ true → u ≡ v
same_use u v e = use_exact u v ((Equal-is (use_cmp u v)).0 e)

pub live_is_held : (s : Uses) (moment : ℕ) (u : Use) → IsTrue (holds (live s moment) u) → IsTrue (holds s u)
live_is_held s moment u h = (and_parts (nat_lt moment u.exp) (holds s u) (sym (holds-live s moment u) ∙ h)).1

pub live_is_live : (s : Uses) (moment : ℕ) (u : Use) → IsTrue (holds (live s moment) u) → moment < u.exp
live_is_live s moment u h = ltb-true moment u.exp (and_parts (nat_lt moment u.exp) (holds s u) (sym (holds-live s moment u) ∙ h)).0

-- a set with one more use has that use, or had it
pub with_from : (s : Uses) (d u : Use) → IsTrue (holds (with s d) u) → IsTrue (holds s u) ⊎ (u ≡ d)
with_from s d u k =
    elim (or_cases (eq_by_cmp use_cmp u d) (holds s u) (sym (with_holds_one_more s d u) ∙ k)) [ inl e ↦ inr (same_use u d e) | inr e ↦ inl e ]

-- sets of sound uses
pub none_sound : (s : Uses) → s ≡ no_uses → AreSound s
none_sound s e u h = absurd (true≢false (sym (ap (λ t. holds t u) (sym e) ∙ h) ∙ no_uses_hold_none u))

pub live_sound : (s : Uses) (moment : ℕ) → AreSound s → AreSound (live s moment)
live_sound s moment sound u h = sound u (live_is_held s moment u h)

pub with_sound : (s : Uses) (d : Use) → IsUse d → nat_lt d.at d.exp ≡ true → AreSound s → AreSound (with s d)
with_sound s d fields lt sound u h =
    elim (with_from s d u h) [
      | inl old ↦ sound u old
      | inr e ↦ subst IsSound (sym e) (record { fields = fields; sound = ltb-true d.at d.exp lt })
    ]

-- a record that was advanced to a moment is at that moment or later
pub raised_past : (x y : State) (moment : ℕ) → y ≡ join x (state_of moment []) → moment ≤ y.moment
raised_past x y moment e =
    let past : moment ≤ max x.moment moment = omega arith in
    subst (λ (r : State). moment ≤ r.moment) (sym e) (subst (λ n. moment ≤ n) (sym (moment-join x (state_of moment []))) past)

-- the record has a use, or the use is beside the record, or it has expired
abbrev pub Covers : State → Uses → Use → Type 0
Covers x beside c = (IsTrue (holds x.uses c) ⊎ IsTrue (holds beside c)) ⊎ (c.exp ≤ x.moment)

pub covers_join : (x b : State) (beside : Uses) (c : Use) → Covers x beside c → Covers (join x b) beside c
covers_join x b beside c (inl (inl h)) =
    elim (cases_lt (max x.moment b.moment) c.exp) [
      | inl lt ↦ inl (inl (holds-join x b c ∙ and_from (nat_lt (max x.moment b.moment) c.exp) (holds b.uses c || holds x.uses c) (lt-ltb (max x.moment b.moment) c.exp lt) (or_right (holds b.uses c) (holds x.uses c) h)))
      | inr ge ↦ inr (subst (λ n. c.exp ≤ n) (sym (moment-join x b)) ge)
    ]
covers_join x b beside c (inl (inr h)) = inl (inr h)
covers_join x b beside c (inr h) =
    let past : c.exp ≤ max x.moment b.moment = omega arith in
    inr (subst (λ n. c.exp ≤ n) (sym (moment-join x b)) past)

pub covers_live : (x : State) (beside : Uses) (c : Use) → Covers x beside c → Covers x (live beside x.moment) c
covers_live x beside c (inl (inl h)) = inl (inl h)
covers_live x beside c (inl (inr h)) =
    elim (cases_lt x.moment c.exp) [
      | inl lt ↦ inl (inr (holds-live beside x.moment c ∙ and_from (nat_lt x.moment c.exp) (holds beside c) (lt-ltb x.moment c.exp lt) h))
      | inr ge ↦ inr ge
    ]
covers_live x beside c (inr h) = inr h

covers_passing : (x : State) (far : ℕ) (d : Use) (beside : Uses) (c : Use) → Covers x beside c → Covers (passing x far d) beside c
covers_passing x far d beside c h =
    cond_both (is_early x far d) x (raised_to x d.at) (λ y. Covers y beside c) (λ _. h) (λ _. covers_join x (state_of d.at []) beside c h)

pub covers_reached : (x : State) (now far : ℕ) (d : Use) (beside : Uses) (c : Use) → Covers x beside c → Covers (reached x now far d) beside c
covers_reached x now far d beside c h = covers_passing (raised_to x now) far d beside c (covers_join x (state_of now []) beside c h)

covers_gains : (fate : Fate) (x : State) (d : Use) (beside : Uses) (c : Use) → Covers x beside c → Covers (gains_by fate x d) beside c
covers_gains First x d beside c h = covers_join x (state_of x.moment (d ∷ [])) beside c h
covers_gains Withdrawal x d beside c h = covers_join x (state_of x.moment (d ∷ [])) beside c h
covers_gains Accepted x d beside c h = h
covers_gains Expired x d beside c h = h
covers_gains TooFarAhead x d beside c h = h
covers_gains Withdrawn x d beside c h = h
covers_gains Replayed x d beside c h = h

covers_with : (x : State) (d : Use) (beside : Uses) (c : Use) → Covers x beside c → Covers x (with beside d) c
covers_with x d beside c (inl (inl h)) = inl (inl h)
covers_with x d beside c (inl (inr h)) = inl (inr (with_holds_one_more beside d c ∙ or_right (eq_by_cmp use_cmp c d) (holds beside c) h))
covers_with x d beside c (inr h) = inr h

covers_put : (x : State) (moment : ℕ) (d : Use) (beside : Uses) (c : Use) → Covers x beside c → Covers x (put_beside moment beside d) c
covers_put x moment d beside c h =
    cond_both (counts moment d) (with beside d) beside (λ s. Covers x s c) (λ _. covers_with x d beside c h) (λ _. h)

covers_beside : (fate : Fate) (x : State) (moment : ℕ) (d : Use) (beside : Uses) (c : Use) → Covers x beside c → Covers x (beside_by fate moment beside d) c
covers_beside TooFarAhead x moment d beside c h = covers_put x moment d beside c h
covers_beside Withdrawn x moment d beside c h = covers_put x moment d beside c h
covers_beside Replayed x moment d beside c h = covers_put x moment d beside c h
covers_beside Accepted x moment d beside c h = h
covers_beside First x moment d beside c h = h
covers_beside Expired x moment d beside c h = h
covers_beside Withdrawal x moment d beside c h = h

-- what was covered is still covered after the next use was read
pub covers_read : (x : State) (beside : Uses) (now far : ℕ) (d c : Use) → Covers x beside c → Covers (held_after x beside now far d) (beside_after x beside now far d) c
covers_read x beside now far d c h =
    let y = reached x now far d in
    let fate = fate_at x beside now far d in
    let s = live beside y.moment in
    covers_beside fate (gains_by fate y d) y.moment d s c (covers_gains fate y d s c (covers_live y beside c (covers_reached x now far d beside c h)))

-- what follows from a fate
pub first_by : (n e w d u s : Bool) → fate_by n e w d u s ≡ First → (n ≡ true) × (e ≡ false) × (w ≡ false) × (d ≡ false) × (u ≡ false) × (s ≡ false)
first_by false e w d u s h = absurd (cc)
first_by true true w d u s h = absurd (cc)
first_by true false true d u s h = absurd (cc)
first_by true false false true u s h = absurd (cc)
first_by true false false false true s h = absurd (cc)
first_by true false false false false true h = absurd (cc)
first_by true false false false false false h = (refl, refl, refl, refl, refl, refl)

expired_by : (n e w d u s : Bool) → fate_by n e w d u s ≡ Expired → n ≡ false
expired_by false e w d u s h = refl
expired_by true true w d u s h = absurd (cc)
expired_by true false true d u s h = absurd (cc)
expired_by true false false true u s h = absurd (cc)
expired_by true false false false true s h = absurd (cc)
expired_by true false false false false true h = absurd (cc)
expired_by true false false false false false h = absurd (cc)

pub withdrawal_by : (n e w d u s : Bool) → fate_by n e w d u s ≡ Withdrawal → (n ≡ true) × (e ≡ false) × (w ≡ true)
withdrawal_by false e w d u s h = absurd (cc)
withdrawal_by true true w d u s h = absurd (cc)
withdrawal_by true false true d u s h = (refl, refl, refl)
withdrawal_by true false false true u s h = absurd (cc)
withdrawal_by true false false false true s h = absurd (cc)
withdrawal_by true false false false false true h = absurd (cc)
withdrawal_by true false false false false false h = absurd (cc)

pub not_accepted_by : (n e w d u s : Bool) → fate_by n e w d u s ≡ Accepted → ⊥
not_accepted_by false e w d u s h = absurd (cc)
not_accepted_by true true w d u s h = absurd (cc)
not_accepted_by true false true d u s h = absurd (cc)
not_accepted_by true false false true u s h = absurd (cc)
not_accepted_by true false false false true s h = absurd (cc)
not_accepted_by true false false false false true h = absurd (cc)
not_accepted_by true false false false false false h = absurd (cc)

-- a claim that nothing refuses is a first one
pub first_from : (n e w d u s : Bool) → n ≡ true → e ≡ false → w ≡ false → d ≡ false → u ≡ false → s ≡ false → fate_by n e w d u s ≡ First
first_from n e w d u s hn he hw hd hu hs = rw hn (rw he (rw hw (rw hd (rw hu (rw hs)))))

pub counts_from : (moment : ℕ) (c : Use) → moment < c.exp → c.at < c.exp → counts moment c ≡ true
counts_from moment c is_live sound = and_from (nat_lt moment c.exp) (nat_lt c.at c.exp) (lt-ltb moment c.exp is_live) (lt-ltb c.at c.exp sound)

counted_is_live : (moment : ℕ) (c : Use) → counts moment c ≡ true → moment < c.exp
counted_is_live moment c h = ltb-true moment c.exp (and_parts (nat_lt moment c.exp) (nat_lt c.at c.exp) h).0

counted_is_sound : (moment : ℕ) (c : Use) → counts moment c ≡ true → c.at < c.exp
counted_is_sound moment c h = ltb-true c.at c.exp (and_parts (nat_lt moment c.exp) (nat_lt c.at c.exp) h).1

uncounted_is_past : (moment : ℕ) (c : Use) → c.at < c.exp → counts moment c ≡ false → c.exp ≤ moment
uncounted_is_past moment c sound h =
    elim (cases_lt moment c.exp) [
      | inl lt ↦ absurd (true≢false (sym (counts_from moment c lt sound) ∙ h))
      | inr ge ↦ ge
    ]

-- a use is in the set that it was put into
has_itself : (c : Use) → eq_by_cmp use_cmp c c ≡ true
has_itself c = ap is_eq (tied_itself use_total c)

pub joined_has : (x : State) (c : Use) → x.moment < c.exp → IsTrue (holds (join x (state_of x.moment (c ∷ []))).uses c)
joined_has x c lt =
    let b = state_of x.moment (c ∷ []) in
    let later : max x.moment x.moment < c.exp = omega arith in
    holds-join x b c
    ∙ and_from (nat_lt (max x.moment x.moment) c.exp) (holds b.uses c || holds x.uses c) (lt-ltb (max x.moment x.moment) c.exp later)
    (or_left (holds b.uses c) (holds x.uses c) (holds-uses_in (c ∷ []) c ∙ or_left (eq_by_cmp use_cmp c c) false (has_itself c)))

put_has : (x : State) (beside : Uses) (c : Use) → c.at < c.exp → Covers x (put_beside x.moment beside c) c
put_has x beside c sound =
    elim (cases_lt x.moment c.exp) [
      | inl lt ↦ inl (inr (ap (λ s. holds s c) (cond-true (counts x.moment c) (with beside c) beside (counts_from x.moment c lt sound)) ∙ (with_holds_one_more beside c c ∙ or_left (eq_by_cmp use_cmp c c) (holds beside c) (has_itself c))))
      | inr ge ↦ inr ge
    ]

-- the use that is read is covered
new_covered : (fate : Fate) (x : State) (beside : Uses) (c : Use) → c.at < c.exp → (fate ≡ Accepted → ⊥) → (fate ≡ Expired → c.exp ≤ x.moment) → (fate ≡ First → x.moment < c.exp) → (fate ≡ Withdrawal → x.moment < c.exp) → Covers (gains_by fate x c) (beside_by fate x.moment beside c) c
new_covered First x beside c sound never late live_then live_too = inl (inl (joined_has x c (live_then refl)))
new_covered Withdrawal x beside c sound never late live_then live_too = inl (inl (joined_has x c (live_too refl)))
new_covered Expired x beside c sound never late live_then live_too = inr (late refl)
new_covered TooFarAhead x beside c sound never late live_then live_too = put_has x beside c sound
new_covered Withdrawn x beside c sound never late live_then live_too = put_has x beside c sound
new_covered Replayed x beside c sound never late live_then live_too = put_has x beside c sound
new_covered Accepted x beside c sound never late live_then live_too = absurd (never refl)

pub read_covers_own : (x : State) (beside : Uses) (now far : ℕ) (c : Use) → c.at < c.exp → Covers (held_after x beside now far c) (beside_after x beside now far c) c
read_covers_own x beside now far c sound =
    let y = reached x now far c in
    let s = live beside y.moment in
    new_covered (fate_at x beside now far c) y s c sound
    (λ e. not_accepted_by _ _ _ _ _ _ e)
    (λ e. uncounted_is_past y.moment c sound (expired_by _ _ _ _ _ _ e))
    (λ e. counted_is_live y.moment c (first_by _ _ _ _ _ _ e).0)
    (λ e. counted_is_live y.moment c (withdrawal_by _ _ _ _ _ _ e).0)

-- a set that has a use has one of its key
pub held_is_used : (s : Uses) (d : Use) (key : List ℕ) → IsTrue (holds s d) → d.key ≡ key → has_use_of s key ≡ true
held_is_used s d key is_held same =
    let in_uses = Contains-from_any {eq = eq_by_cmp use_cmp} same_use d (rising s) (sym (holds-rising use_cmp s d) ∙ is_held) in
    any_in (has_key key) (rising s) d in_uses (subst (λ k. is_eq (bytes_cmp k d.key) ≡ true) same (ap is_eq (tied_itself nat_list_cmp_total d.key)))

-- uses that a first claim follows, with its key, have expired
pub covered_is_past : (x : State) (beside : Uses) (now far : ℕ) (c d : Use) → fate_at x beside now far c ≡ First → Covers x beside d → d.key ≡ c.key → d.exp ≤ (reached x now far c).moment
covered_is_past x beside now far c d first covers same =
    let y = reached x now far c in
    let s = live beside y.moment in
    let says = first_by _ _ _ _ _ _ first in
    by_cover y s (covers_live y beside d (covers_reached x now far c beside d covers)) says.4 says.5
  where
    by_cover : (y : State) (s : Uses) → Covers y s d → has_use_of y.uses c.key ≡ false → has_use_of s c.key ≡ false → d.exp ≤ y.moment
    by_cover y s (inl (inl h)) unused unclaimed = absurd (true≢false (sym (held_is_used y.uses d c.key h same) ∙ unused))
    by_cover y s (inl (inr h)) unused unclaimed = absurd (true≢false (sym (held_is_used s d c.key h same) ∙ unclaimed))
    by_cover y s (inr past) unused unclaimed = past

pub first_is_live : (x : State) (beside : Uses) (now far : ℕ) (c : Use) → fate_at x beside now far c ≡ First → (reached x now far c).moment < c.exp
first_is_live x beside now far c first = counted_is_live (reached x now far c).moment c (first_by _ _ _ _ _ _ first).0

pub first_is_sound : (x : State) (beside : Uses) (now far : ℕ) (c : Use) → fate_at x beside now far c ≡ First → c.at < c.exp
first_is_sound x beside now far c first = counted_is_sound (reached x now far c).moment c (first_by _ _ _ _ _ _ first).0

pub withdrawal_is_sound : (x : State) (beside : Uses) (now far : ℕ) (c : Use) → fate_at x beside now far c ≡ Withdrawal → c.at < c.exp
withdrawal_is_sound x beside now far c e = counted_is_sound (reached x now far c).moment c (withdrawal_by _ _ _ _ _ _ e).0

-- a use beside the record was there before, or is the one that was read
put_from : (moment : ℕ) (beside : Uses) (d u : Use) → IsTrue (holds (put_beside moment beside d) u) → IsTrue (holds beside u) ⊎ ((u ≡ d) × (d.at < d.exp))
put_from moment beside d u h =
    cond_both (counts moment d) (with beside d) beside (λ s. IsTrue (holds s u) → IsTrue (holds beside u) ⊎ ((u ≡ d) × (d.at < d.exp)))
    (λ is k. elim (with_from beside d u k) [ inl a ↦ inl a | inr e ↦ inr (e, counted_is_sound moment d is) ]) (λ _ k. inl k) h

beside_from : (fate : Fate) (moment : ℕ) (beside : Uses) (d u : Use) → IsTrue (holds (beside_by fate moment beside d) u) → IsTrue (holds beside u) ⊎ ((u ≡ d) × (d.at < d.exp))
beside_from TooFarAhead moment beside d u h = put_from moment beside d u h
beside_from Withdrawn moment beside d u h = put_from moment beside d u h
beside_from Replayed moment beside d u h = put_from moment beside d u h
beside_from Accepted moment beside d u h = inl h
beside_from First moment beside d u h = inl h
beside_from Expired moment beside d u h = inl h
beside_from Withdrawal moment beside d u h = inl h

pub read_from : (x : State) (beside : Uses) (now far : ℕ) (d u : Use) → IsTrue (holds (beside_after x beside now far d) u) → IsTrue (holds beside u) ⊎ ((u ≡ d) × (d.at < d.exp))
read_from x beside now far d u h =
    let y = reached x now far d in
    elim (beside_from (fate_at x beside now far d) y.moment (live beside y.moment) d u h) [
      | inl a ↦ inl (live_is_held beside y.moment u a)
      | inr e ↦ inr e
    ]

-- a set that has a use of a key has that use
pub used_is_held : (s : Uses) (key : List ℕ) → has_use_of s key ≡ true → (u : Use) × IsTrue (holds s u) × (u.key ≡ key)
used_is_held s key h =
    found (λ u. holds s u ≡ true) (has_key key) ((u : Use) × IsTrue (holds s u) × (u.key ≡ key)) (rising s)
    (recursion_from_All (λ u. holds s u ≡ true) (rising s) (λ k d lt. held_in_rising s k d lt)) h
    (λ u held is. (u, held, same_key key u.key is))

any_weaker : {X : Type 0} (p q : X → Bool) → ((x : X) → p x ≡ true → q x ≡ true) → (xs : List X) → list_any q xs ≡ false → list_any p xs ≡ false
any_weaker p q weaker [] none = refl
any_weaker p q weaker (x ∷ xs) none = grind (arith, any_weaker p q weaker xs, weaker x)

pub unused_is_not_withdrawn : (s : Uses) (key : List ℕ) → has_use_of s key ≡ false → has_withdrawal_of s key ≡ false
unused_is_not_withdrawn s key h = any_weaker (withdraws key) (has_key key) (λ u is. grind arith) (rising s) h

-- the moment of a record that gains a use stays
gains_stay : (fate : Fate) (x : State) (c : Use) → (gains_by fate x c).moment ≡ x.moment
gains_stay First x c = let same : max x.moment x.moment ≡ x.moment = omega arith in moment-join x (state_of x.moment (c ∷ [])) ∙ same
gains_stay Withdrawal x c = let same : max x.moment x.moment ≡ x.moment = omega arith in moment-join x (state_of x.moment (c ∷ [])) ∙ same
gains_stay Accepted x c = refl
gains_stay Expired x c = refl
gains_stay TooFarAhead x c = refl
gains_stay Withdrawn x c = refl
gains_stay Replayed x c = refl

pub held_stays : (x : State) (beside : Uses) (now far : ℕ) (c : Use) → (held_after x beside now far c).moment ≡ (reached x now far c).moment
held_stays x beside now far c = gains_stay (fate_at x beside now far c) (reached x now far c) c

-- a record stays as it is when it is advanced to a moment that it has reached
pub raised_is_same : (x : State) (moment : ℕ) → IsRecord x → moment ≤ x.moment → raised_to x moment ≡ x
raised_is_same x moment is le =
    let b = state_of moment [] in
    let same : max x.moment moment ≡ x.moment = omega arith in
    ap (λ n. record { moment = n; uses = (join x b).uses }) (moment-join x b ∙ same)
    ∙ ap (λ s. record { moment = x.moment; uses = s }) (same_uses (join x b).uses x.uses (λ u. held u (holds x.uses u) refl))
  where
    nothing : (b : Bool) → (b && false) ≡ false
    nothing true = refl
    nothing false = refl

    held : (u : Use) (h : Bool) → holds x.uses u ≡ h → holds (join x (state_of moment [])).uses u ≡ holds x.uses u
    held u true e =
        let lt = (is.each u e).live in
        let later : max x.moment moment < u.exp = omega arith in
        holds-join x (state_of moment []) u ∙ (and_from (nat_lt (max x.moment moment) u.exp) (holds (state_of moment []).uses u || holds x.uses u) (lt-ltb (max x.moment moment) u.exp later) (or_right (holds (state_of moment []).uses u) (holds x.uses u) e) ∙ sym e)
    held u false e =
        holds-join x (state_of moment []) u ∙ (ap (λ h. nat_lt (max x.moment moment) u.exp && (holds (state_of moment []).uses u || h)) e
        ∙ (ap (λ h. nat_lt (max x.moment moment) u.exp && (h || false)) (no_uses_hold_none u) ∙ (nothing (nat_lt (max x.moment moment) u.exp) ∙ sym e)))

pub passing_is_same : (x : State) (far : ℕ) (c : Use) → IsRecord x → c.at ≤ x.moment → x ≡ passing x far c
passing_is_same x far c is le = cond_both (is_early x far c) x (raised_to x c.at) (λ y. x ≡ y) (λ _. refl) (λ _. sym (raised_is_same x c.at is le))
