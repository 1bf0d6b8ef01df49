-- Walks: the next uses of several lists, and parts of a list.
use borrow.Rule.Slice.PartMut.{post_of, put_mid}
use Rattle.std.proofs.Common.{◌≡◌, ℕ, ◌<◌, ◌≤◌, ◌+◌, ◌-◌, zero, suc, Bool, true, false, cond, not, ◌||◌, ◌&&◌, List, [], ◌∷◌, ◌++◌, length, take, drop, get_or, Bor, filter, find, min, nat_eq, nat_lt, slice_get, Option, Some, None, refl, sym, ◌∙◌, ap, subst, arith, ⊎_elim}
use Rattle.std.proofs.Math.Seq.{drop-cons, take-append-add, take-append_seam}
use Rattle.std.proofs.lemmas.Bool.Decides.{nat_tests}
use Rattle.std.proofs.lemmas.List.{append-nil, append_assoc, length-append, length-drop, length-take, take_all, take-append-le, take-append-drop, take_min, nil_from_length, take-take, take_more}
use Rattle.std.proofs.lemmas.Bool.{cases_lt}
use Rattle.std.proofs.lemmas.List.Elements.{recursion_from_All}
use Rattle.std.proofs.lemmas.List.Folds.{list_any-append}
use Rattle.std.proofs.lemmas.List.Kept.{IsStrictlySortedBy-filter}
use Rattle.std.proofs.lemmas.Map.Keys.{Less-from_sorted}
use Rattle.std.specs.Iterator.{MakesProgress, Yields, YieldsFirst, item_count}
use Rattle.std.specs.List.{AllByRecursion, list_any}
use Rattle.std.specs.List.Sorted.{IsStrictlySortedBy}
use Rattle.std.specs.Option.{is_some, option_copied}
use Rattle.std.specs.Ordering.{eq_by_cmp, is_lt, match_ordering}
use Rattle.std.specs.declared.cmp.Ordering.{Ordering}
use Rattle.std.specs.declared.cmp.Ordering.TheVariants.{Less, Equal, Greater}
use Rattle.svid_replay.specs.declared.token_use.Use.{Use}
use Rattle.svid_replay.specs.Batches.{is_after, last_of}
use Rattle.svid_replay.specs.Runs.{all_of}
use Rattle.svid_replay.specs.Sets.{rising}
use Rattle.svid_replay.specs.Use.{use_cmp, IsRising}
use Rattle.svid_replay.specs.Uses.{Uses, uses_in}
use Rattle.svid_replay.specs.Walks.{next_few, uses_behind}
use Rattle.svid_replay.proofs.ListLemmas.{each_take}
use Rattle.svid_replay.proofs.MergeLemmas.{merge, merge_has, merge_rises, merge_second_done}
use Rattle.svid_replay.proofs.RunsLemmas.{all_append, rising_both}
use Rattle.svid_replay.proofs.SetsLemmas.{rising_rises, same_rising}
use Rattle.svid_replay.proofs.TestsLemmas.{is_less, or-comm}
use Rattle.svid_replay.proofs.UseLemmas.{use_exact, use_total}
use Rattle.svid_replay.proofs.UsesLemmas.{any-filter, holds-uses_in, same_uses, next_is, none_left, rising-uses_in}

-- the first of a list, as many as fit
-- a part that is cut, and more behind it, cut
pub take_cut : {X : Type 0} (n : ℕ) (xs ys : List X) → take n (take n xs ++ ys) ≡ take n (xs ++ ys)
take_cut zero xs ys = refl
take_cut (suc n) [] ys = refl
take_cut (suc n) (x ∷ xs) ys = ap (λ zs. x ∷ zs) (take_cut n xs ys)

-- the first of two merged lists come from the first of each
pub take_merged : {K : Type 0} (R : K → K → Ordering) (n m : ℕ) → n ≤ m → (xs ys : List K) → take n (merge R (take m xs) ys) ≡ take n (merge R xs ys)
take_merged R zero m le xs ys = refl
take_merged R (suc n) zero le xs ys = absurd (omega arith)
take_merged R (suc n) (suc m) le [] ys = refl
take_merged R (suc n) (suc m) le (x ∷ xs) [] = ap (λ zs. x ∷ zs) (take-take n m xs (omega arith))
take_merged R (suc n) (suc m) le (x ∷ xs) (y ∷ ys) =
    elim (R x y) as (λ o. take (suc n) (match_ordering o (x ∷ merge R (take m xs) (y ∷ ys)) (x ∷ merge R (take m xs) ys) (y ∷ merge R (x ∷ take m xs) ys)) ≡ take (suc n) (match_ordering o (x ∷ merge R xs (y ∷ ys)) (x ∷ merge R xs ys) (y ∷ merge R (x ∷ xs) ys))) [
      | Less ↦ ap (λ zs. x ∷ zs) (take_merged R n m (omega arith) xs (y ∷ ys))
      | Equal ↦ ap (λ zs. x ∷ zs) (take_merged R n m (omega arith) xs ys)
      | Greater ↦ ap (λ zs. y ∷ zs) (take_merged R n (suc m) (omega arith) (x ∷ xs) ys)
    ]

take_rises : {K : Type 0} (R : K → K → Ordering) (n : ℕ) (xs : List K) → IsStrictlySortedBy R xs → IsStrictlySortedBy R (take n xs)
unfolding IsStrictlySortedBy
take_rises R zero xs up = tt
take_rises R (suc n) [] up = tt
take_rises R (suc n) (x ∷ xs) up = (each_take (λ y. R x y ≡ Less) n xs up.0, take_rises R n xs up.1)

-- where all of one list come before the first of the other
merge_before : {K : Type 0} (R : K → K → Ordering) (xs : List K) (y : K) (ys : List K) → AllByRecursion (λ x. R x y ≡ Less) xs → merge R xs (y ∷ ys) ≡ xs ++ (y ∷ ys)
merge_before R [] y ys below = refl
merge_before R (x ∷ xs) y ys below = ap (λ o. match_ordering o (x ∷ merge R xs (y ∷ ys)) (x ∷ merge R xs ys) (y ∷ merge R (x ∷ xs) ys)) below.0 ∙ ap (λ zs. x ∷ zs) (merge_before R xs y ys below.1)

-- where the last of one list comes before the first of the other
pub apart_merged : (us vs : List Use) (k : ℕ) (d e : Use) → IsRising us → length us ≡ suc k → is_lt (use_cmp (get_or us k d) (get_or vs 0 e)) ≡ true → 1 ≤ length vs → merge use_cmp us vs ≡ us ++ vs
apart_merged us vs k d e rises long less some =
    let y = get_or vs 0 e in
    let ys = drop 1 vs in
    let first : vs ≡ y ∷ ys = drop-cons vs 0 e some in
    let before : use_cmp (get_or us k d) y ≡ Less = is_less _ less in
    let all : AllByRecursion (λ x. use_cmp x y ≡ Less) us = recursion_from_All (λ x. use_cmp x y ≡ Less) us (λ i c within.
    ⊎_elim (λ lt. use_total.trans (get_or us i c) (get_or us k c) y (Less-from_sorted use_cmp us i k c rises lt (omega (arith, long))) (subst (λ (u : Use). use_cmp u y ≡ Less) (get_or_any us k d c (omega (arith, long))) before))
    (λ ge. let same : i ≡ k = omega (arith, long) in subst (λ (u : Use). use_cmp u y ≡ Less) (get_or_any us k d c (omega (arith, long)) ∙ ap (λ n. get_or us n c) (sym same)) before) (cases_lt i k)) in
    ap (merge use_cmp us) first ∙ merge_before use_cmp us y ys all ∙ ap (λ zs. us ++ zs) (sym first)
  where
    get_or_any : (us : List Use) (i : ℕ) (d e : Use) → i < length us → get_or us i d ≡ get_or us i e
    get_or_any [] i d e within = absurd (omega arith)
    get_or_any (u ∷ us) zero d e within = refl
    get_or_any (u ∷ us) (suc i) d e within = get_or_any us i d e (omega arith)

-- where the last of a full room comes before the first of other uses
pub room_in_front : (room uses self : List Use) (k : ℕ) (d e : Use) → room ≡ self → IsRising self → length room ≡ suc k → is_lt (use_cmp (get_or room k d) (get_or uses 0 e)) ≡ true → 1 ≤ length uses → take (suc k) (merge use_cmp self uses) ≡ self
room_in_front room uses self k d e same rises full less some =
    ap (λ us. take (suc k) (merge use_cmp us uses)) (sym same)
    ∙ ap (take (suc k)) (apart_merged room uses k d e (subst IsRising (sym same) rises) full less some)
    ∙ take-append-le (suc k) room uses (omega (arith, full)) ∙ take_all (suc k) room (omega (arith, full)) ∙ same

pub room_alone : (room uses self : List Use) → room ≡ self → length room ≤ 64 → length uses < 1 → take 64 (merge use_cmp self uses) ≡ self
room_alone room uses self same few none =
    let nothing = nil_from_length uses (omega arith) in
    ap (take 64) (merge_second_done use_cmp self uses nothing ∙ ap (λ us. self ++ us) nothing ∙ append-nil self) ∙ take_all 64 self (omega (arith, ap length same))

-- the next uses of a list and of a run beside it
and-or : (p a b : Bool) → (p && (a || b)) ≡ ((p && a) || (p && b))
and-or true a b = refl
and-or false a b = refl

filter_merged : (p : Use → Bool) (xs ys : List Use) → IsRising xs → IsRising ys → filter p (merge use_cmp xs ys) ≡ merge use_cmp (filter p xs) (filter p ys)
filter_merged p xs ys up up' =
    let rise = λ (us : List Use) (h : IsRising us). IsStrictlySortedBy-filter use_cmp p us h in
    same_rising use_total use_exact _ _ (rise (merge use_cmp xs ys) (merge_rises use_total use_exact xs ys up up')) (merge_rises use_total use_exact (filter p xs) (filter p ys) (rise xs up) (rise ys up')) (λ q.
    let tie = eq_by_cmp use_cmp q in
    any-filter p q (merge use_cmp xs ys) ∙ ap (λ b. p q && b) (merge_has use_total use_exact (eq_by_cmp use_cmp q) xs ys) ∙ and-or (p q) (list_any tie xs) (list_any tie ys)
    ∙ sym (merge_has use_total use_exact (eq_by_cmp use_cmp q) (filter p xs) (filter p ys) ∙ (λ i. any-filter p q xs i || any-filter p q ys i)))

few_merged : (us vs : List Use) (after : Option Use) → IsRising vs → take 64 (merge use_cmp (next_few (uses_in us) after) (filter (is_after after) vs)) ≡ next_few (uses_in (us ++ vs)) after
few_merged us vs after up =
    let p = is_after after in
    let xs = rising (uses_in us) in
    take_merged use_cmp 64 64 (omega arith) (filter p xs) (filter p vs)
    ∙ ap (take 64) (sym (filter_merged p xs vs (rising_rises use_cmp (uses_in us)) up) ∙ ap (filter p) (ap (merge use_cmp xs) (sym (rising-uses_in vs up)) ∙ sym (rising_both us vs)))

pub few_none : (after : Option Use) → [] ≡ next_few (uses_in []) after
unfolding IsStrictlySortedBy
few_none after = ap (λ us. take 64 (filter (is_after after) us)) (sym (rising-uses_in [] tt))

few_rises : (s : Uses) (after : Option Use) → IsRising (next_few s after)
few_rises s after = take_rises use_cmp 64 (filter (is_after after) (rising s)) (IsStrictlySortedBy-filter use_cmp (is_after after) (rising s) (rising_rises use_cmp s))

-- the room of a walk over runs, with one more run
pub few_more : (us : List Use) (after : Option Use) (run rest room next : List Use) → IsRising run → rest ≡ filter (is_after after) run → room ≡ next_few (uses_in us) after → (IsRising room → next ≡ take 64 (merge use_cmp room rest)) → next ≡ next_few (uses_in (us ++ run)) after
few_more us after run rest room next up behind before is =
    is (subst IsRising (sym before) (few_rises (uses_in us) after)) ∙ (λ k. take 64 (merge use_cmp (before k) (behind k))) ∙ few_merged us run after up

-- the uses of so many runs and one more
pub runs_more : (runs : List (List Use)) (i : ℕ) (run : List Use) → i < length runs → run ≡ get_or runs i run → all_of (take i runs) ++ run ≡ all_of (take (i + 1) runs)
runs_more runs i run within at =
    sym (ap all_of (take_more runs i run within) ∙ all_append (take i runs) (get_or runs i run ∷ []) ∙ ap (λ ws. all_of (take i runs) ++ ws) (append-nil (get_or runs i run) ∙ sym at))

pub uses_in-turned : (us vs : List Use) → uses_in (us ++ vs) ≡ uses_in (vs ++ us)
uses_in-turned us vs = same_uses (uses_in (us ++ vs)) (uses_in (vs ++ us)) (λ q.
    let tie = eq_by_cmp use_cmp q in
    holds-uses_in (us ++ vs) q ∙ list_any-append tie us vs ∙ or-comm (list_any tie us) (list_any tie vs) ∙ sym (holds-uses_in (vs ++ us) q ∙ list_any-append tie vs us))

-- what a room has of a walk from each use to the next
pub room_full : (n : ℕ) (room rest whole : List Use) → room ++ rest ≡ whole → length room ≡ n → room ≡ take n whole
room_full n room rest whole e full = sym (take_all n room (omega arith)) ∙ sym (take-append-le n room rest (omega arith)) ∙ ap (take n) e

pub room_done : (n : ℕ) (room rest whole : List Use) → room ++ rest ≡ whole → rest ≡ [] → length room ≤ n → room ≡ take n whole
room_done n room rest whole e none few = sym (take_all n room few) ∙ ap (take n) (sym (append-nil room) ∙ ap (λ ws. room ++ ws) (sym none) ∙ e)

-- what is left to a walk

-- after the last of the first uses come the others
behind_first : (n : ℕ) (us : List Use) (after : Option Use) → IsRising us → filter (is_after (last_of after (take n (filter (is_after after) us)))) us ≡ drop n (filter (is_after after) us)
behind_first zero us after up = refl
behind_first (suc n) us after up =
    elim (find (is_after after) us) as (λ found. find (is_after after) us ≡ found → filter (is_after (last_of after (take (suc n) (filter (is_after after) us)))) us ≡ drop (suc n) (filter (is_after after) us)) [
      | None ↦ λ none. let nothing = none_left (is_after after) us none in ap (λ ws. filter (is_after (last_of after (take (suc n) ws))) us) nothing ∙ nothing ∙ ap (drop (suc n)) (sym nothing)
      | Some u ↦ λ e. let is = next_is after us u up e in ap (λ ws. filter (is_after (last_of after (take (suc n) ws))) us) is ∙ behind_first n us (Some u) up ∙ ap (drop (suc n)) (sym is)
    ] refl

-- a filled room has the first of the uses that are left, and the others come after its last
pub refilled : (s : Uses) (before after : Option Use) (room : List Use) → room ≡ next_few s before → after ≡ last_of before room → room ++ uses_behind s after ≡ uses_behind s before
refilled s before after room is last =
    ap (λ o. room ++ uses_behind s o) (last ∙ ap (last_of before) is) ∙ ap (λ ws. ws ++ uses_behind s (last_of before (next_few s before))) is
    ∙ ap (λ ws. next_few s before ++ ws) (behind_first 64 (rising s) before (rising_rises use_cmp s)) ∙ take-append-drop 64 (uses_behind s before)

-- the filled room is empty: then nothing is left
pub refilled_none : (s : Uses) (before after : Option Use) (room : List Use) → room ≡ next_few s before → after ≡ last_of before room → room ≡ [] → uses_behind s after ≡ []
refilled_none s before after room is last none =
    nil_from_length (uses_behind s after) (omega (arith, ap length none, ap length (refilled s before after room is last), ap length is, length-take 64 (uses_behind s before), length-append room (uses_behind s after)))

-- a room with more uses after those that it has
pub room_extended : (uses mid more now : List Use) (len count gap : ℕ) → length uses ≡ 64 → len ≤ 64 → take len uses ≡ now → count ≡ min (length more) (64 - len) → mid ≡ take count more → take (len + count) (put_mid len gap uses mid) ≡ take 64 (now ++ more)
room_extended uses mid more now len count gap full few view least is =
    let long : length now ≡ len = ap length (sym view) ∙ length-take len uses ∙ omega (arith, full) in
    let part : mid ≡ take (64 - len) more = is ∙ ap (λ n. take n more) (least ∙ min-comm (length more) (64 - len)) ∙ take_min (64 - len) more in
    let size : length mid ≡ count = ap length is ∙ length-take count more ∙ omega (arith, least) in
    let tail = post_of len gap uses in
    let end : len + count ≡ length now + count = omega (arith, long) in
    let room : 64 ≡ length now + (64 - len) = omega (arith, long, few) in
    let left : take (len + count) (put_mid len gap uses mid) ≡ now ++ mid =
    ap (λ us. take (len + count) (us ++ (mid ++ tail))) view ∙ ap (λ n. take n (now ++ (mid ++ tail))) end ∙ take-append-add now (mid ++ tail) count
    ∙ ap (λ us. now ++ us) (ap (λ n. take n (mid ++ tail)) (sym size) ∙ take-append_seam mid tail) in
    let right : take 64 (now ++ more) ≡ now ++ take (64 - len) more = ap (λ n. take n (now ++ more)) room ∙ take-append-add now more (64 - len) in
    left ∙ ap (λ us. now ++ us) part ∙ sym right
  where
    min-comm : (a b : ℕ) → min a b ≡ min b a
    min-comm a b = omega arith

-- a room that a step has filled further
pub record HasMore (us : List Use) (after begin : Option Use) (room : List Use) : Type 0 where
  pub few : length room ≤ 64
  pub parts : room ++ filter (is_after after) us ≡ filter (is_after begin) us

pub room_more : (us : List Use) (after begin : Option Use) (room next : List Use) (u : Use) → IsRising us → find (is_after after) us ≡ Some u → length room ≤ 64 → room ++ filter (is_after after) us ≡ filter (is_after begin) us → nat_eq (length room) 64 ≡ false → (length room < 64 → next ≡ room ++ u ∷ []) → HasMore us (Some u) begin next
room_more us after begin room next u up e few parts not_full pushed =
    let is = pushed (grind (arith, nat_tests)) in
    record {
      few = omega (arith, ap length is, length-append room (u ∷ []), pushed_few);
      parts = ap (λ ws. ws ++ filter (is_after (Some u)) us) is ∙ append_assoc room (u ∷ []) (filter (is_after (Some u)) us) ∙ ap (λ ws. room ++ ws) (sym (next_is after us u up e)) ∙ parts;
    }
  where
    pushed_few : suc (length room) ≤ 64
    pushed_few = grind (arith, nat_tests)

-- the last of some uses is before their end
pub last_is : (before : Option Use) (us : List Use) (d : Use) → 1 ≤ length us → Some (get_or us (length us - 1) d) ≡ last_of before us
last_is before [] d some = absurd (omega arith)
last_is before (u ∷ []) d some = refl
last_is before (u ∷ v ∷ us) d some =
    let e : length (u ∷ v ∷ us) - 1 ≡ suc (length (v ∷ us) - 1) = omega arith in
    ap (λ n. Some (get_or (u ∷ v ∷ us) n d)) e ∙ last_is (Some u) (v ∷ us) d (omega arith)

-- a filled room gives the first of the uses that are left
pub gives_first : (s : Uses) (before after : Option Use) (given room whole : List Use) (r : Option Use) → given ++ uses_behind s before ≡ whole → given ≡ [] → room ≡ next_few s before → after ≡ last_of before room → r ≡ slice_get room 0 → YieldsFirst {S = List Use} (λ w. w) whole r (drop 1 room ++ uses_behind s after)
gives_first s before after given room whole r view none is last first =
    subst (λ o. YieldsFirst {S = List Use} (λ w. w) whole o (drop 1 room ++ uses_behind s after)) (sym first) (from room refl)
  where
    all : room ++ uses_behind s after ≡ whole
    all = refilled s before after room is last ∙ ap (λ ws. ws ++ uses_behind s before) (sym none) ∙ view

    from : (us : List Use) → room ≡ us → YieldsFirst {S = List Use} (λ w. w) whole (slice_get us 0) (drop 1 room ++ uses_behind s after)
    from [] e =
        let nothing = refilled_none s before after room is last e in
        (sym all ∙ ap (λ ws. ws ++ uses_behind s after) e ∙ nothing, ap (λ ws. drop 1 ws ++ uses_behind s after) e ∙ nothing)
    from (u ∷ us) e = sym all ∙ ap (λ ws. ws ++ uses_behind s after) e ∙ sym (ap (λ ws. u ∷ (drop 1 ws ++ uses_behind s after)) e)

-- what gives the first of a list comes nearer to its end
pub goes_on : (can : List Use → Type 0) → ((w : List Use) → can w) → (s : List Use) (r : Option Use) (t : List Use) → YieldsFirst {S = List Use} (λ w. w) s r t → MakesProgress can (item_count {A = Use} (λ w. w)) s r t
goes_on can every s None t h = record { on = λ f. tt; keeps = tt; rests = λ f. tt }
goes_on can every s (Some u) t h = record { on = λ f. (every t, tt, omega (arith, ap length h)); keeps = every t; rests = λ f. tt }

-- where there is nothing at an index, there is nothing after it
pub none_at : (us at_hand : List Use) (n : ℕ) (r : Option (Bor Use)) → at_hand ≡ us → is_some r ≡ nat_lt n (length at_hand) → option_copied r ≡ None → drop n us ≡ []
none_at us at_hand n None same is none =
    let past : length us ≤ n = grind (arith, nat_tests, is, ap length same) in
    nil_from_length (drop n us) (omega (arith, length-drop n us))
none_at us at_hand n (Some u) same is none = let some : Some u.now ≡ None = none in cc

-- what a loop over a walk has taken, and what is left
given_first : (s : List Use) (xs : List Use) (t : List Use) → Yields (YieldsFirst {S = List Use} (λ w. w)) s xs t → s ≡ xs ++ t
given_first s [] t e = e
given_first s (x ∷ xs) t y = y.1 ∙ ap (λ ws. x ∷ ws) (given_first y.0 xs t y.2)

pub walk_takes : (all items begin now next xs : List Use) (u : Use) → items ≡ all → begin ≡ items → Yields (YieldsFirst {S = List Use} (λ w. w)) begin xs now → now ≡ u ∷ next → all ≡ xs ++ u ∷ next
walk_takes all items begin now next xs u is same given e = sym is ∙ sym same ∙ given_first begin xs now given ∙ ap (λ ws. xs ++ ws) e

pub walk_ends : (all items begin now xs : List Use) → items ≡ all → begin ≡ items → Yields (YieldsFirst {S = List Use} (λ w. w)) begin xs now → now ≡ [] → all ≡ xs
walk_ends all items begin now xs is same given none = sym is ∙ sym same ∙ given_first begin xs now given ∙ ap (λ ws. xs ++ ws) none ∙ append-nil xs
