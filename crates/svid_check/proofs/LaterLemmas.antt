-- A save that is made piece by piece loses nothing.
use Rattle.std.proofs.Common.{◌≡◌, ◌⊎◌, inl, inr, ℕ, zero, suc, ◌<◌, ◌≤◌, max, min, Bool, true, false, ◌&&◌, ◌||◌, nat_lt, List, [], ◌∷◌, length, take, Option, Some, None, IsTrue, Contains, refl, sym, ap, ◌∙◌, subst, arith, if◌then◌else◌}
use Rattle.std.specs.List.{AllByRecursion, filter}
use Rattle.std.specs.List.Sorted.{IsStrictlySortedBy}
use Rattle.std.specs.Ordering.{eq_by_cmp, is_eq, is_lt}
use Rattle.std.specs.declared.cmp.Ordering.TheVariants.{Less}
use Rattle.std.proofs.lemmas.Bool.{and_from, and_parts, false≢true, lt-ltb, ltb-true, or_cases, or_left, or_right}
use Rattle.std.proofs.lemmas.Cmp.{tied_itself}
use Rattle.std.proofs.lemmas.List.Kept.{IsStrictlySortedBy-filter}
use Rattle.svid_replay.specs.Buckets.{raised_to}
use Rattle.svid_replay.specs.declared.token_use.Use.{Use}
use Rattle.svid_replay.specs.Batches.{BatchData, is_after, last_of}
use Rattle.svid_replay.specs.Parts.{join_all}
use Rattle.svid_replay.specs.Records.{State, batch_state, join, state_of}
use Rattle.svid_replay.specs.Sets.{holds, rising}
use Rattle.svid_replay.specs.Use.{IsRising, use_cmp}
use Rattle.svid_replay.specs.Uses.{uses_in}
use Rattle.svid_replay.proofs.ListLemmas.{any_in, has_cases, has_first, has_later, has_none, in_kept}
use Rattle.svid_replay.proofs.RecordsLemmas.{holds-join, is_join, moment-join}
use Rattle.svid_replay.proofs.SetsLemmas.{rising_rises}
use Rattle.svid_replay.proofs.TestsLemmas.{one_test}
use Rattle.svid_replay.proofs.UseLemmas.{use_total}
use Rattle.svid_replay.proofs.UsesLemmas.{holds-uses_in, rising_has_held}
use Rattle.svid_check.specs.Alone.{Answer, Check, Renew, Restart, Save, Take, Tick, Withdraw, answer_alone, joined_of, withdrawal_alone}
use Rattle.svid_check.specs.Changes.{accepted_in, gains, horizon, withdrawn_in}
use Rattle.svid_check.specs.SaveEvents.{CallsLeaveLater}
use Rattle.svid_check.specs.Saves.{IsLater, IsSaved, LaterGoesOn, SavesAddNothing, SavesLoseNothing, piece_of}
use Rattle.svid_check.proofs.CutsLemmas.{piece_within}
use Rattle.svid_check.proofs.WholeEventsLemmas.{join_all_over}

-- Later records.

pub same_later : (a : State) → IsLater a a
same_later a = record { moment = omega arith; uses = λ u h live. h }

pub later_goes_on : LaterGoesOn
later_goes_on a b c one two =
    let first : a.moment ≤ b.moment = one.moment in
    let second : b.moment ≤ c.moment = two.moment in
    record { moment = omega arith; uses = λ u h live. let soon : c.moment < u.exp = live in two.uses u (one.uses u h (omega arith)) live }

-- what a join has
join_has : (a b : State) (u : Use) → max a.moment b.moment < u.exp → IsTrue (holds b.uses u || holds a.uses u) → IsTrue (holds (join a b).uses u)
join_has a b u live h = holds-join a b u ∙ and_from (nat_lt (max a.moment b.moment) u.exp) (holds b.uses u || holds a.uses u) (lt-ltb (max a.moment b.moment) u.exp live) h

pub join_later : (a b : State) → IsLater a (join a b)
join_later a b = record {
  moment = let greater : a.moment ≤ max a.moment b.moment = omega arith in subst (λ n. a.moment ≤ n) (sym (moment-join a b)) greater;
  uses = λ u h live. join_has a b u (subst (λ n. n < u.exp) (moment-join a b) live) (or_right (holds b.uses u) (holds a.uses u) h);
}

pub raised_later : (a : State) (now : ℕ) → IsLater a (raised_to a now)
raised_later a now = join_later a (state_of now [])

pub gains_later : (a b : State) (added : Option Use) → IsLater a b → IsLater a (gains b added)
gains_later a b (Some u) h = later_goes_on a b (gains b (Some u)) h (join_later b (state_of b.moment (u ∷ [])))
gains_later a b None h = h

either_later : (a b c : State) (test : Bool) → IsLater a b → IsLater a c → IsLater a (if test then b else c)
either_later a b c true h k = h
either_later a b c false h k = k

pub calls_leave_later : CallsLeaveLater
calls_leave_later t w (Check now token refused) free = gains_later w.held (raised_to w.held now) (accepted_in (answer_alone t w now token refused)) (raised_later w.held now)
calls_leave_later t w (Withdraw now key exp refused) free = gains_later w.held (raised_to w.held now) (withdrawn_in (withdrawal_alone t w now key exp refused)) (raised_later w.held now)
calls_leave_later t w (Tick now) free = raised_later w.held now
calls_leave_later t w (Take now b refused) free =
    let x = raised_to w.held now in
    let y = join x (batch_state (joined_of b refused)) in
    either_later w.held x y (nat_lt (horizon now t.ahead) b.moment) (raised_later w.held now) (later_goes_on w.held x y (raised_later w.held now) (join_later x (batch_state (joined_of b refused))))
calls_leave_later t w (Answer now s) free =
    let x = raised_to w.held now in
    let y = raised_to x s.moment in
    either_later w.held x y (nat_lt (horizon now t.ahead) s.moment) (raised_later w.held now) (later_goes_on w.held x y (raised_later w.held now) (raised_later x s.moment))
calls_leave_later t w Save free = same_later w.held
calls_leave_later t w (Renew renewal) free = same_later w.held
calls_leave_later t w (Restart k) free = absurd free

-- Pieces.

-- a use of a rising list is among its first ones, or behind the last of them
first_or_behind : (n : ℕ) (us : List Use) (after : Option Use) (u : Use) → IsRising us → Contains us u → is_after after u ≡ true → Contains (take n us) u ⊎ ((is_after (last_of after (take n us)) u ≡ true) × (n ≤ length (take n us)))
unfolding IsStrictlySortedBy
first_or_behind n [] after u up has behind = has_none u has
first_or_behind zero (x ∷ us) after u up has behind = inr (behind, omega arith)
first_or_behind (suc n) (x ∷ us) after u up has behind = elim (has_cases x us u has) [
  | inl same ↦ inl (subst (λ (v : Use). Contains (x ∷ take n us) v) same (has_first x (take n us)))
  | inr later ↦ elim (first_or_behind n us (Some x) u up.1 later (ap is_lt (each_has u us up.0 later))) [
    | inl first ↦ inl (has_later x (take n us) u first)
    | inr past ↦ inr (past.0, let so_far : n ≤ length (take n us) = past.1 in omega arith)
  ]
]
  where
    each_has : (v : Use) (vs : List Use) → AllByRecursion (λ y. use_cmp x y ≡ Less) vs → Contains vs v → use_cmp x v ≡ Less
    each_has v [] all in_list = has_none v in_list
    each_has v (y ∷ vs) all in_list = elim (has_cases y vs v in_list) [ inl is ↦ subst (λ (z : Use). use_cmp x z ≡ Less) is all.0 | inr rest ↦ each_has v vs all.1 rest ]

listed_held : (us : List Use) (u : Use) → Contains us u → IsTrue (holds (uses_in us) u)
listed_held us u has = holds-uses_in us u ∙ any_in (eq_by_cmp use_cmp u) us u has (ap is_eq (tied_itself use_total u))

-- a use that is behind another is in the piece behind that, or behind the piece, and that then is full
in_piece : (a : State) (after : Option Use) (most : ℕ) (b : BatchData) (u : Use) → b ≡ piece_of a after most → IsTrue (holds a.uses u) → is_after after u ≡ true
    → IsTrue (holds (uses_in b.uses) u) ⊎ ((is_after (last_of after b.uses) u ≡ true) × (min most 65536 ≤ length b.uses))
in_piece a after most b u is held behind =
    let kept = filter (is_after after) (rising a.uses) in
    subst (λ (c : BatchData). IsTrue (holds (uses_in c.uses) u) ⊎ ((is_after (last_of after c.uses) u ≡ true) × (min most 65536 ≤ length c.uses))) (sym is)
    (elim (first_or_behind (min most 65536) kept after u (IsStrictlySortedBy-filter use_cmp (is_after after) (rising a.uses) (rising_rises use_cmp a.uses)) (in_kept (is_after after) (rising a.uses) u ((rising_has_held a.uses u).0 held) behind) behind) [
      | inl first ↦ inl (listed_held (take (min most 65536) kept) u first)
      | inr past ↦ inr past
    ])

-- the last record is a later one
pub saved_later : (a : State) (after : Option Use) (bs : List BatchData) (z : State) → IsSaved a after bs z → IsLater a z
saved_later a after [] z saved = absurd saved
saved_later a after (b ∷ []) z saved = subst (IsLater a) (sym saved.3) (same_later a)
saved_later a after (b ∷ c ∷ more) z saved = later_goes_on a saved.1 z saved.3 (saved_later saved.1 (last_of after b.uses) (c ∷ more) z saved.4)

moments_rise : (a : State) (after : Option Use) (bs : List BatchData) (z : State) → IsSaved a after bs z → a.moment ≤ z.moment
moments_rise a after bs z saved = (saved_later a after bs z saved).moment

not_both : (n m : ℕ) → n < m → m ≤ n → ⊥
not_both n m lt le = omega arith

-- a use that was joined, or that is held behind the last one that was saved, is in the join of all
saved_holds : (u : Use) (a : State) (after : Option Use) (bs : List BatchData) (z r : State) → IsSaved a after bs z → r.moment ≤ z.moment → z.moment < u.exp
    → IsTrue (holds r.uses u) ⊎ (IsTrue (holds a.uses u) × (is_after after u ≡ true)) → IsTrue (holds (join_all r bs).uses u)
saved_holds u a after [] z r saved early live h = absurd saved
saved_holds u a after (b ∷ []) z r saved early live h =
    let s = batch_state b in
    let at : b.moment ≡ a.moment = ap (λ (c : BatchData). c.moment) saved.1 in
    let same = ap (λ (x : State). x.moment) saved.3 in
    let soon : max r.moment b.moment < u.exp = omega (arith, at, same, early, live) in
    elim h [
      | inl joined ↦ join_has r s u soon (or_right (holds s.uses u) (holds r.uses u) joined)
      | inr held ↦ elim (in_piece a after saved.0 b u saved.1 held.0 held.1) [
        | inl here ↦ join_has r s u soon (or_left (holds s.uses u) (holds r.uses u) here)
        | inr past ↦ absurd (not_both (length b.uses) (min saved.0 65536) saved.2 past.1)
      ]
    ]
saved_holds u a after (b ∷ c ∷ more) z r saved early live h =
    let s = batch_state b in
    let next = saved.1 in
    let at : b.moment ≡ a.moment = ap (λ (d : BatchData). d.moment) saved.2 in
    let first : a.moment ≤ next.moment = saved.3.moment in
    let rest : next.moment ≤ z.moment = moments_rise next (last_of after b.uses) (c ∷ more) z saved.4 in
    let soon : max r.moment b.moment < u.exp = omega (arith, at, first, rest, early, live) in
    let still : max r.moment b.moment ≤ z.moment = omega (arith, at, first, rest, early) in
    let kept : next.moment < u.exp = omega (arith, rest, live) in
    saved_holds u next (last_of after b.uses) (c ∷ more) z (join r s) saved.4 (subst (λ n. n ≤ z.moment) (sym (moment-join r s)) still) live
    (elim h [
      | inl joined ↦ inl (join_has r s u soon (or_right (holds s.uses u) (holds r.uses u) joined))
      | inr held ↦ elim (in_piece a after saved.0 b u saved.2 held.0 held.1) [
        | inl here ↦ inl (join_has r s u soon (or_left (holds s.uses u) (holds r.uses u) here))
        | inr past ↦ inr (saved.3.uses u held.0 kept, past.0)
      ]
    ])

pub saves_lose_nothing : SavesLoseNothing
saves_lose_nothing a z batches u saved held live = saved_holds u a None batches z (state_of 0 []) saved (omega arith) live (inr (held, refl))

-- What is more than the pieces.

-- no piece is past the last record
pub saved_moments : (a : State) (after : Option Use) (bs : List BatchData) (z : State) → IsSaved a after bs z → AllByRecursion (λ b. b.moment ≤ z.moment) bs
saved_moments a after [] z saved = tt
saved_moments a after (b ∷ []) z saved =
    let at : b.moment ≡ a.moment = ap (λ (d : BatchData). d.moment) saved.1 in
    let rise : a.moment ≤ z.moment = moments_rise a after (b ∷ []) z saved in
    (omega (arith, at, rise), tt)
saved_moments a after (b ∷ c ∷ more) z saved =
    let at : b.moment ≡ a.moment = ap (λ (d : BatchData). d.moment) saved.2 in
    let rise : a.moment ≤ z.moment = moments_rise a after (b ∷ c ∷ more) z saved in
    (omega (arith, at, rise), saved_moments saved.1 (last_of after b.uses) (c ∷ more) z saved.4)

-- all pieces have the moment of the last record
all_at : (a : State) (after : Option Use) (bs : List BatchData) (z r : State) → IsSaved a after bs z → r.moment ≤ z.moment → (join_all r bs).moment ≡ z.moment
all_at a after [] z r saved early = absurd saved
all_at a after (b ∷ []) z r saved early =
    let at : b.moment ≡ a.moment = ap (λ (d : BatchData). d.moment) saved.1 in
    let same : z.moment ≡ a.moment = ap (λ (x : State). x.moment) saved.3 in
    moment-join r (batch_state b) ∙ omega (arith, at, same, early)
all_at a after (b ∷ c ∷ more) z r saved early =
    let at : b.moment ≤ z.moment = (saved_moments a after (b ∷ c ∷ more) z saved).0 in
    let still : max r.moment b.moment ≤ z.moment = omega (arith, at, early) in
    all_at saved.1 (last_of after b.uses) (c ∷ more) z (join r (batch_state b)) saved.4 (subst (λ n. n ≤ z.moment) (sym (moment-join r (batch_state b))) still)

-- what they hold is live
all_live : (u : Use) (r : State) (b : BatchData) (bs : List BatchData) → IsTrue (holds (join_all r (b ∷ bs)).uses u) → (join_all r (b ∷ bs)).moment < u.exp
all_live u r b [] h =
    let s = batch_state b in
    subst (λ n. n < u.exp) (sym (moment-join r s)) (ltb-true (max r.moment s.moment) u.exp (and_parts (nat_lt (max r.moment s.moment) u.exp) (holds s.uses u || holds r.uses u) (sym (holds-join r s u) ∙ h)).0)
all_live u r b (c ∷ bs) h = all_live u (join r (batch_state b)) c bs h

-- a use of a piece that is live when the last record is, is in that
piece_in : (u : Use) (a : State) (after : Option Use) (most : ℕ) (b : BatchData) (z r : State) → b ≡ piece_of a after most → IsLater a z → z.moment < u.exp
    → (IsTrue (holds r.uses u) → IsTrue (holds z.uses u)) → IsTrue (holds (join r (batch_state b)).uses u) → IsTrue (holds z.uses u)
piece_in u a after most b z r is later live before h =
    let s = batch_state b in
    elim (or_cases (holds s.uses u) (holds r.uses u) (and_parts (nat_lt (max r.moment s.moment) u.exp) (holds s.uses u || holds r.uses u) (sym (holds-join r s u) ∙ h)).1) [
      | inl here ↦ later.uses u (piece_within a after most u (subst (λ (d : BatchData). IsTrue (holds (uses_in d.uses) u)) is here)) live
      | inr joined ↦ before joined
    ]

adds_none : (u : Use) (a : State) (after : Option Use) (bs : List BatchData) (z r : State) → IsSaved a after bs z → z.moment < u.exp
    → (IsTrue (holds r.uses u) → IsTrue (holds z.uses u)) → IsTrue (holds (join_all r bs).uses u) → IsTrue (holds z.uses u)
adds_none u a after [] z r saved live before h = absurd saved
adds_none u a after (b ∷ []) z r saved live before h = piece_in u a after saved.0 b z r saved.1 (saved_later a after (b ∷ []) z saved) live before h
adds_none u a after (b ∷ c ∷ more) z r saved live before h =
    adds_none u saved.1 (last_of after b.uses) (c ∷ more) z (join r (batch_state b)) saved.4 live
    (piece_in u a after saved.0 b z r saved.2 (saved_later a after (b ∷ c ∷ more) z saved) live before) h

nothing_in : (u : Use) (G : Type 0) → IsTrue (holds (state_of 0 []).uses u) → G
nothing_in u G h = absurd (false≢true (sym (holds-uses_in [] u) ∙ h))

pub saves_add_nothing : SavesAddNothing
saves_add_nothing a z [] saved = absurd saved
saves_add_nothing a z (b ∷ more) saved =
    let r = state_of 0 [] in
    let at = all_at a None (b ∷ more) z r saved (omega arith) in
    (at, λ u h. adds_none u a None (b ∷ more) z r saved (subst (λ n. n < u.exp) at (all_live u r b more h)) (nothing_in u (IsTrue (holds z.uses u))) h)

-- The record of the pieces, joined to what was there when they began.

-- raised by no more than it is joined with, a record joins as it is
pub raised_first : (s : State) (m : ℕ) (b : BatchData) → m ≤ b.moment → join (raised_to s m) (batch_state b) ≡ join s (batch_state b)
raised_first s m b le =
    let d = batch_state b in
    let x = raised_to s m in
    let top : max x.moment b.moment ≡ max s.moment b.moment = ap (λ n. max n b.moment) (moment-join s (state_of m [])) ∙ omega (arith, le) in
    is_join s d (join x d) (moment-join x d ∙ top) (λ u.
    holds-join x d u ∙ ap (λ n. nat_lt n u.exp && (holds d.uses u || holds x.uses u)) top
    ∙ ap (λ h. nat_lt (max s.moment b.moment) u.exp && (holds d.uses u || h)) (holds-join s (state_of m []) u ∙ ap (λ h. nat_lt (max s.moment m) u.exp && (h || holds s.uses u)) (holds-uses_in [] u))
    ∙ live_before (nat_lt (max s.moment b.moment) u.exp) (nat_lt (max s.moment m) u.exp) (holds d.uses u) (holds s.uses u) (λ later. soon s.moment m b.moment u.exp le later))
  where
    live_before : (late l b h : Bool) → (late ≡ true → l ≡ true) → (late && (b || (l && (false || h)))) ≡ (late && (b || h))
    live_before true l b h so = ap (λ t. b || (t && h)) (so refl)
    live_before false l b h so = refl

    soon : (s m b e : ℕ) → m ≤ b → nat_lt (max s b) e ≡ true → nat_lt (max s m) e ≡ true
    soon s m b e le is = lt-ltb (max s m) e (let late : max s b < e = ltb-true (max s b) e is in omega (arith, le, late))

pub saved_whole : (a z : State) (bs : List BatchData) → IsSaved a None bs z → join_all a bs ≡ join_all (state_of 0 []) bs
saved_whole a z [] saved = absurd saved
saved_whole a z (b ∷ more) saved =
    let r = state_of 0 [] in
    let s = join_all r (b ∷ more) in
    let at : s.moment ≡ z.moment = all_at a None (b ∷ more) z r saved (omega arith) in
    let rise : a.moment ≤ z.moment = moments_rise a None (b ∷ more) z saved in
    let top : s.moment ≡ max a.moment s.moment = omega (arith, at, rise) in
    let over : join_all a (b ∷ more) ≡ join a s = ap (λ (t : State). join_all t more) (sym (raised_first a 0 b (omega arith))) ∙ join_all_over a r (b ∷ more) in
    over ∙ sym (is_join a s s top (λ u.
    one_test (holds s.uses u) (nat_lt (max a.moment s.moment) u.exp && (holds s.uses u || holds a.uses u))
    (λ h. and_from (nat_lt (max a.moment s.moment) u.exp) (holds s.uses u || holds a.uses u) (lt-ltb (max a.moment s.moment) u.exp (subst (λ n. n < u.exp) top (all_live u r b more h))) (or_left (holds s.uses u) (holds a.uses u) h))
    (λ h.
    let parts = and_parts (nat_lt (max a.moment s.moment) u.exp) (holds s.uses u || holds a.uses u) h in
    let live : z.moment < u.exp = subst (λ n. n < u.exp) (sym top ∙ at) (ltb-true (max a.moment s.moment) u.exp parts.0) in
    elim (or_cases (holds s.uses u) (holds a.uses u) parts.1) [ inl here ↦ here | inr had ↦ saves_lose_nothing a z (b ∷ more) u saved had live ])))
