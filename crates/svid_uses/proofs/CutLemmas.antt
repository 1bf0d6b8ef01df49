use Rattle.std.proofs.Common.{◌≡◌, ◌≢◌, ◌==◌, ◌⊎◌, ◌<◌, ◌≤◌, ◌+◌, ℕ, suc, Bool, true, false, List, [], ◌∷◌, ◌++◌, length, take, drop, get_or, refl, sym, ◌∙◌, ap, subst, arith, cond, inl, inr, None, Some, slice_get}
use Rattle.std.proofs.lemmas.Bool.{cases_lt, false≢true}
use Rattle.std.proofs.lemmas.Bool.Decides.{nat_tests}
use Rattle.std.proofs.lemmas.List.{append-nil, append_assoc, get_or-drop, get_or-take, length-drop, length-take, length-take-le, take-append-drop, take-take}
use Rattle.std.proofs.lemmas.List.Sums.{prefix_len-le-length, prefix_len_stops}
use Rattle.std.proofs.lemmas.Option.{same_Some}
use Rattle.std.specs.List.{AllByRecursion, prefix_len}
use Rattle.svid_replay.specs.declared.token_use.Use.{Use}
use Rattle.svid_replay.specs.Batches.{BatchData, IsBatch}
use Rattle.svid_replay.specs.Records.{IsHeldAt}
use Rattle.svid_replay.proofs.ListLemmas.{each_drop, each_take, each_weaker}
use Rattle.svid_replay.proofs.PartsLemmas.{held_is_batch}
use Rattle.svid_log.specs.Values.{uses_in}
use Rattle.svid_uses.specs.Batched.{AreCut, IsFullBefore, IsOfItsMoment, HasUse, count_at, made_at}
use Rattle.svid_uses.specs.Time.{IsInTime, IsTellable}
use Rattle.svid_uses.proofs.TimeLemmas.{each_both, in_time_drop, in_time_take, rises_at}

-- the first uses that were made at a moment, as many as a batch has
take_passes : {X : Type 0} (p : X → Bool) (xs : List X) → AllByRecursion (λ x. p x ≡ true) (take (prefix_len p xs) xs)
take_passes p [] = tt
take_passes {X = X} p (x ∷ xs) =
    let one_more : 1 + prefix_len p xs ≡ suc (prefix_len p xs) = omega arith in
    elim (p x) as (λ b. p x ≡ b → AllByRecursion (λ y. p y ≡ true) (take (cond b (1 + prefix_len p xs) 0) (x ∷ xs))) [
      | true ↦ λ e. subst (λ n. AllByRecursion (λ y. p y ≡ true) (take n (x ∷ xs))) (sym one_more) (e, take_passes p xs)
      | false ↦ λ e. tt
    ] refl

same_number : (a b : ℕ) → (a == b) ≡ true → a ≡ b
same_number a b e = grind (arith, nat_tests)

number_itself : (a b : ℕ) → a ≡ b → (a == b) ≡ true
number_itself a b e = grind (arith, nat_tests)

count_few : (m : ℕ) (us : List Use) → (count_at m us ≤ 65536) × (count_at m us ≤ length us)
count_few m us =
    let long = prefix_len-le-length (made_at m) (take 65536 us) in
    (omega (arith, long, length-take 65536 us), omega (arith, long, length-take 65536 us))

front_at : (m : ℕ) (us : List Use) → AllByRecursion (λ u. u.at ≡ m) (take (count_at m us) us)
front_at m us =
    subst (AllByRecursion (λ u. u.at ≡ m)) (take-take (count_at m us) 65536 us (count_few m us).0)
    (each_weaker (λ u. made_at m u ≡ true) (λ u. u.at ≡ m) (λ u e. same_number u.at m e) (take (count_at m us) (take 65536 us)) (take_passes (made_at m) (take 65536 us)))

-- the use after them was made at another moment, unless they are as many as a batch may have
next_at : (m : ℕ) (us : List Use) (d : Use) → count_at m us < 65536 → count_at m us < length us → (get_or us (count_at m us) d).at ≢ m
next_at m us d few some same =
    let stop = prefix_len_stops (made_at m) (take 65536 us) d (omega (arith, length-take 65536 us)) in
    let here : get_or (take 65536 us) (count_at m us) d ≡ get_or us (count_at m us) d = get_or-take 65536 us (count_at m us) d few in
    false≢true (sym stop ∙ (ap (made_at m) here ∙ number_itself (get_or us (count_at m us) d).at m same))

some_front : (u : Use) (us : List Use) → 0 < count_at u.at (u ∷ us)
some_front u us = by_cases (cases_lt 0 (count_at u.at (u ∷ us)))
  where
    by_cases : (0 < count_at u.at (u ∷ us)) ⊎ (count_at u.at (u ∷ us) ≤ 0) → 0 < count_at u.at (u ∷ us)
    by_cases (inl lt) = lt
    by_cases (inr none) =
        let zero_is : count_at u.at (u ∷ us) ≡ 0 = omega arith in
        absurd (next_at u.at (u ∷ us) u (omega arith) (omega arith) (ap (λ n. (get_or (u ∷ us) n u).at) zero_is))

-- where the next use was made at the same moment, the batch is full
full_front : (m : ℕ) (us vs : List Use) (v : Use) → drop (count_at m us) us ≡ v ∷ vs → v.at ≡ m → length (take (count_at m us) us) ≡ 65536
full_front m us vs v is same =
    let bounds = count_few m us in
    let more : count_at m us < length us = omega (arith, length-drop (count_at m us) us, ap length is) in
    let here : get_or us (count_at m us) v ≡ v = ap (λ n. get_or us n v) plus ∙ (sym (get_or-drop (count_at m us) us 0 v) ∙ ap (λ xs. get_or xs 0 v) is) in
    let full : count_at m us ≡ 65536 = by_cases more here (cases_lt (count_at m us) 65536) in
    length-take-le (count_at m us) us bounds.1 ∙ full
  where
    plus : count_at m us ≡ count_at m us + 0
    plus = omega arith

    by_cases : count_at m us < length us → get_or us (count_at m us) v ≡ v → (count_at m us < 65536) ⊎ (65536 ≤ count_at m us) → count_at m us ≡ 65536
    by_cases more here (inl lt) = absurd (next_at m us v lt more (ap (λ (u : Use). u.at) here ∙ same))
    by_cases more here (inr ge) = omega (arith, (count_few m us).0)

-- what a loop has cut off when these uses are left
pub record HasCut (us rest : List Use) (batches : List BatchData) : Type 0 where
  pub in_time : IsInTime rest
  pub tellable : AllByRecursion IsTellable rest
  pub goes_on : (more : List BatchData) → AreCut rest more → AreCut us (batches ++ more)

pub cut_none : (us : List Use) → IsInTime us → AllByRecursion IsTellable us → HasCut us us []
cut_none us up good = record { in_time = up; tellable = good; goes_on = λ more are. are }

-- the batch of the first uses
pub front_is_batch : (u : Use) (us front : List Use) → IsInTime (u ∷ us) → AllByRecursion IsTellable (u ∷ us) → front ≡ take (count_at u.at (u ∷ us)) (u ∷ us) → IsBatch (record { moment = u.at; uses = front })
front_is_batch u us front up good is =
    let n = count_at u.at (u ∷ us) in
    let bounds = count_few u.at (u ∷ us) in
    let at = front_at u.at (u ∷ us) in
    rw is (held_is_batch u.at (take n (u ∷ us)) good.0.fields.at (omega (arith, length-take-le n (u ∷ us) bounds.1))
    (rises_at u.at (take n (u ∷ us)) at (in_time_take n (u ∷ us) up))
    (each_both (λ v. v.at ≡ u.at) IsTellable (IsHeldAt u.at) (λ v e t. held v e t) (take n (u ∷ us)) at (each_take IsTellable n (u ∷ us) good)))
  where
    held : (v : Use) → v.at ≡ u.at → IsTellable v → IsHeldAt u.at v
    held v e t = let later : v.at < v.exp = t.later in record { fields = t.fields; made = omega (arith, e); live = omega (arith, e) }

-- the batch of the first uses, and batches of the rest
one_more : (u : Use) (us : List Use) (b : BatchData) (more : List BatchData) → IsBatch b → b ≡ record { moment = u.at; uses = take (count_at u.at (u ∷ us)) (u ∷ us) }
    → AreCut (drop (count_at u.at (u ∷ us)) (u ∷ us)) more → AreCut (u ∷ us) (b ∷ more)
one_more u us b more good is cut =
    let n = count_at u.at (u ∷ us) in
    let bounds = count_few u.at (u ∷ us) in
    record {
      whole = ap (λ (c : BatchData). c.uses ++ uses_in more) is ∙ (ap (λ xs. take n (u ∷ us) ++ xs) cut.whole ∙ take-append-drop n (u ∷ us));
      good = (good, cut.good);
      own = (subst IsOfItsMoment (sym is) (front_at u.at (u ∷ us)), cut.own);
      some = (subst HasUse (sym is) (omega (arith, length-take-le n (u ∷ us) bounds.1, some_front u us)), cut.some);
      few = (subst (λ c. IsFullBefore c more) (sym is) (full more cut), cut.few);
    }
  where
    full : (bs : List BatchData) → AreCut (drop (count_at u.at (u ∷ us)) (u ∷ us)) bs → IsFullBefore (record { moment = u.at; uses = take (count_at u.at (u ∷ us)) (u ∷ us) }) bs
    full [] cuts = tt
    full (c ∷ bs) cuts = λ same. by_uses c.uses refl same
      where
        by_uses : (vs : List Use) → c.uses ≡ vs → u.at ≡ c.moment → length (take (count_at u.at (u ∷ us)) (u ∷ us)) ≡ 65536
        by_uses [] e same = let some : 0 < length c.uses = cuts.some.0 in absurd (omega (arith, ap length e))
        by_uses (v ∷ vs) e same =
            full_front u.at (u ∷ us) (vs ++ uses_in bs) v (sym cuts.whole ∙ ap (λ xs. xs ++ uses_in bs) e) ((subst (AllByRecursion (λ w. w.at ≡ c.moment)) e cuts.own.0).0 ∙ sym same)

pub cuts_more : (us rest front others : List Use) (u : Use) (batches items : List BatchData) (b : BatchData) → HasCut us rest batches → (rest ≡ u ∷ drop 1 rest)
    → front ≡ take (count_at u.at rest) rest → others ≡ drop (count_at u.at rest) rest → b ≡ record { moment = u.at; uses = front } → items ≡ batches ++ b ∷ [] → HasCut us others items
cuts_more us rest front others u batches items b so_far first is_front is_others is pushed = at_first (drop 1 rest) first
  where
    at_first : (vs : List Use) → rest ≡ u ∷ vs → HasCut us others items
    at_first vs e =
        let up : IsInTime (u ∷ vs) = subst IsInTime e so_far.in_time in
        let good : AllByRecursion IsTellable (u ∷ vs) = subst (AllByRecursion IsTellable) e so_far.tellable in
        let front_is : front ≡ take (count_at u.at (u ∷ vs)) (u ∷ vs) = is_front ∙ ap (λ xs. take (count_at u.at xs) xs) e in
        let others_is : others ≡ drop (count_at u.at (u ∷ vs)) (u ∷ vs) = is_others ∙ ap (λ xs. drop (count_at u.at xs) xs) e in
        record {
          in_time = subst IsInTime (sym others_is) (in_time_drop (count_at u.at (u ∷ vs)) (u ∷ vs) up);
          tellable = subst (AllByRecursion IsTellable) (sym others_is) (each_drop IsTellable (count_at u.at (u ∷ vs)) (u ∷ vs) good);
          goes_on = λ more cut.
              subst (λ bs. AreCut us bs) (sym (ap (λ bs. bs ++ more) pushed ∙ append_assoc batches (b ∷ []) more))
              (so_far.goes_on (b ∷ more) (subst (λ xs. AreCut xs (b ∷ more)) (sym e) (one_more u vs b more
              (subst IsBatch (sym is) (front_is_batch u vs front up good front_is))
              (is ∙ ap (λ xs. record { moment = u.at; uses = xs }) front_is)
              (subst (λ xs. AreCut xs more) others_is cut))));
        }

pub cut_all : (us rest : List Use) (batches : List BatchData) → HasCut us rest batches → rest ≡ [] → AreCut us batches
cut_all us rest batches so_far none =
    subst (AreCut us) (append-nil batches) (so_far.goes_on [] (subst (λ xs. AreCut xs []) (sym none) (record { whole = refl; good = tt; own = tt; some = tt; few = tt })))

-- fewer uses are left
pub fewer_left : (u : Use) (rest others : List Use) → rest ≡ u ∷ drop 1 rest → others ≡ drop (count_at u.at rest) rest → length others < length rest
fewer_left u rest others first is =
    let some : 0 < count_at u.at rest = subst (λ xs. 0 < count_at u.at xs) (sym first) (some_front u (drop 1 rest)) in
    omega (arith, ap length is, length-drop (count_at u.at rest) rest, (count_few u.at rest).1)

-- the first of the uses that are left
pub with_first : (rest : List Use) (u : Use) → slice_get rest 0 ≡ Some u → rest ≡ u ∷ drop 1 rest
with_first [] u e = absurd (cc)
with_first (v ∷ vs) u e = ap (λ w. w ∷ vs) (same_Some v u e)

pub no_first : (rest : List Use) → slice_get rest 0 ≡ None → rest ≡ []
no_first [] e = refl
no_first (v ∷ vs) e = absurd (cc)

pub is_batch_of : (us rest front : List Use) (u : Use) (batches : List BatchData) → HasCut us rest batches → rest ≡ u ∷ drop 1 rest → front ≡ take (count_at u.at rest) rest → IsBatch (record { moment = u.at; uses = front })
is_batch_of us rest front u batches so_far first is =
    front_is_batch u (drop 1 rest) front (subst IsInTime first so_far.in_time) (subst (AllByRecursion IsTellable) first so_far.tellable) (is ∙ ap (λ xs. take (count_at u.at xs) xs) first)
