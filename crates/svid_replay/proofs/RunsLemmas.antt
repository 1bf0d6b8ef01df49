-- Runs, their filters and their start, and the store of them.
use Rattle.std.proofs.Common.{◌≡◌, ℕ, ◌<◌, ◌≤◌, ◌+◌, zero, suc, Bool, true, false, ◌||◌, ◌&&◌, List, [], ◌∷◌, ◌++◌, length, drop, take, get_or, cond, ◌-◌, nat_eq, nat_lt, not, filter, append_assoc, refl, sym, ◌∙◌, ap, subst, arith}
use Rattle.std.proofs.lemmas.List.{append-nil, drop_all, length-append, length-drop, length-take, take-append-drop, take-append-le, take-take, take_all, take_more}
use Rattle.std.proofs.lemmas.Bool.Decides.{nat_tests}
use Rattle.std.proofs.Math.Seq.{drop-cons, take-suc, take-suc-set}
use Rattle.std.proofs.Math.ListN.{set}
use Rattle.std.proofs.lemmas.List.{length-set}
use Rattle.std.proofs.lemmas.List.Folds.{list_any-append}
use Rattle.std.proofs.lemmas.List.Sums.{prefix_len-le-length}
use Rattle.std.specs.List.{prefix_len}
use Rattle.svid_replay.specs.Runs.{all_of, live_of, AreMerged, ArePutIn, HasSame}
use Rattle.svid_replay.specs.Sets.{holds}
use Rattle.svid_replay.specs.Uses.{uses_in}
use Rattle.std.proofs.Common.{find, Option, Some, None}
use Rattle.std.proofs.Common.{min, max}
use Rattle.std.specs.Int.Bits.{bit_and, bit_or}
use Rattle.std.proofs.lemmas.Nat.Bits.{bit_at_and, bit_at_or, same_from_bits}
use Rattle.std.specs.Int.{bit_at}
use Rattle.std.specs.FinMap as finmap
use Rattle.std.proofs.lemmas.List.{length-map}
use Rattle.std.proofs.lemmas.List.Elements.{filter_passes, recursion_from_All}
use Rattle.std.proofs.lemmas.List.Kept.{IsStrictlySortedBy-filter}
use Rattle.std.proofs.lemmas.Bool.{false≢true, false_from_ne_true}
use Rattle.svid_replay.specs.Batches.{is_after}
use Rattle.svid_replay.specs.declared.expiry.Expiry.{Expiry}
use Rattle.svid_replay.specs.Indexed.{is_sought}
use Rattle.svid_replay.specs.Keys.{AreKeys, TellUses, expired_by_then, is_left, left_of, expiry_cmp}
use Rattle.svid_replay.proofs.KeysLemmas.{left_is_all, live_left, tell_live, tell_merged, until_exact, until_total}
use Rattle.svid_replay.proofs.MergeLemmas.{first_alike, merge, merge_has, merge_length, merge_rises, below_all, by_rank}
use Rattle.std.proofs.lemmas.Cmp.{tied_itself}
use Rattle.std.specs.Ordering.{is_lt}
use Rattle.svid_replay.specs.Runs.{least_from, least_of, new_among, HasBits, IsRun, IsRuns, mask_of, index_of}
use Rattle.svid_replay.specs.Twice.{has_key}
use Rattle.svid_replay.specs.Sets.{rising, with, with_all}
use Rattle.svid_replay.specs.Uses.{Uses, count, live, next_above}
use Rattle.svid_replay.proofs.ListLemmas.{any_none, each_true, each_append, each_drop, each_take, each_weaker, filter-in, filter-out}
use Rattle.svid_replay.proofs.SetsLemmas.{rising_rises, holds-rising, holds-with, holds-with_all, same_rising}
use Rattle.svid_replay.proofs.UsesLemmas.{drop-expired, left_rises, left_is, left_count, rising-uses_in, uses_in-filter, same_uses, holds-uses_in, with-held, rising-keep, any-filter, to_front}
use Rattle.std.specs.List.{AllByRecursion, list_any}
use Rattle.std.specs.List.Sorted.{IsStrictlySortedBy}
use Rattle.std.specs.Ordering.{eq_by_cmp, is_eq, ordering_reverse}
use Rattle.std.specs.declared.cmp.Ordering.TheVariants.{Less}
use Rattle.svid_replay.specs.declared.token_use.Use.{Use}
use Rattle.svid_replay.specs.Use.{use_cmp, IsRising}
use Rattle.svid_replay.proofs.TestsLemmas.{and-comm, equal, first_true, one_test, or-comm, or-true}
use Rattle.svid_replay.proofs.IndexedLemmas.{any_use, same_key, sought_key}
use Rattle.svid_replay.proofs.UseLemmas.{use_total, use_exact}

drop_none : {X : Type 0} (n : ℕ) → drop {A = X} n [] ≡ []
drop_none zero = refl
drop_none (suc n) = refl

pub drop_more : {X : Type 0} (s d : ℕ) (xs : List X) → drop (s + d) xs ≡ drop d (drop s xs)
drop_more zero d xs = let e : 0 + d ≡ d = omega arith in ap (λ n. drop n xs) e
drop_more (suc s) d [] = drop_none (suc s + d) ∙ sym (drop_none d)
drop_more (suc s) d (x ∷ xs) = let e : suc s + d ≡ suc (s + d) = omega arith in ap (λ n. drop n (x ∷ xs)) e ∙ drop_more s d xs

-- a run whose start has moved past the expired uses
pub record IsRunCut (items : List Use) (start dropped moment : ℕ) (keyed : Bool) (keys : List Expiry) (expired_by : Option ℕ) (key_filter : List ℕ) (told : List Use) : Type 0 where
  pub is : IsRun items (start + dropped) keyed keys (expired_by_then expired_by moment) key_filter
  pub left : drop (start + dropped) items ≡ filter (λ u. nat_lt moment u.exp) told
  pub counted : dropped + length (drop (start + dropped) items) ≡ length told

pub run_cut : (items told : List Use) (start dropped moment : ℕ) (keyed : Bool) (keys : List Expiry) (expired_by : Option ℕ) (key_filter : List ℕ) → IsRun items start keyed keys expired_by key_filter → drop start items ≡ told → dropped ≡ prefix_len (λ u. not (nat_lt moment u.exp)) told → IsRunCut items start dropped moment keyed keys expired_by key_filter told
run_cut items told start dropped moment keyed keys expired_by key_filter is view front =
    let up : IsRising told = subst IsRising view is.rising in
    let rest : drop (start + dropped) items ≡ drop dropped told = drop_more start dropped items ∙ ap (drop dropped) view in
    let few : prefix_len (λ u. not (nat_lt moment u.exp)) told ≤ length told = prefix_len-le-length (λ u. not (nat_lt moment u.exp)) told in
    let long : length told ≡ length items - start = ap length (sym view) ∙ length-drop start items in
    let less : length (drop dropped told) ≡ length told - dropped = length-drop dropped told in
    let live : drop (start + dropped) items ≡ filter (λ u. nat_lt moment u.exp) told = rest ∙ ap (λ n. drop n told) front ∙ drop-expired moment told up in
    record {
      is = record {
        bound = omega (arith, few, long, front, is.bound);
        rising = left_rises told moment dropped _ up (record { front = front; rest = rest });
        sorted = is.sorted;
        told = λ kept. subst (TellUses (left_of (expired_by_then expired_by moment) keys)) (sym live) (tell_live expired_by moment keys told (subst (AllByRecursion (λ u. is_left expired_by u.exp ≡ true)) view is.live) (subst (TellUses (left_of expired_by keys)) view (is.told kept)));
        live = subst (AllByRecursion (λ u. is_left (expired_by_then expired_by moment) u.exp ≡ true)) (sym live) (live_left expired_by moment told (subst (AllByRecursion (λ u. is_left expired_by u.exp ≡ true)) view is.live));
        some = is.some;
        known = subst (AllByRecursion (λ u. HasBits key_filter u.key)) (sym (drop_more start dropped items)) (each_drop _ dropped (drop start items) is.known);
      };
      left = live;
      counted = omega (arith, ap length rest, less, few, front);
    }

pub run_gone : (items : List Use) (start : ℕ) (keyed : Bool) (keys : List Expiry) (expired_by later : Option ℕ) (key_filter : List ℕ) → later ≡ expired_by → IsRun items start keyed keys expired_by key_filter → IsRun items start keyed keys later key_filter
run_gone items start keyed keys expired_by later key_filter e is = subst (λ g. IsRun items start keyed keys g key_filter) (sym e) is

-- the same without the dropped prefix and its keys
pub run_moved : (items now : List Use) (start : ℕ) (keyed : Bool) (keys swept : List Expiry) (expired_by : Option ℕ) (key_filter renewed : List ℕ) → IsRun items start keyed keys expired_by key_filter → now ≡ drop start items → swept ≡ left_of expired_by keys → 0 < length renewed → AllByRecursion (λ u. HasBits renewed u.key) now → IsRun now 0 keyed swept None renewed
run_moved items now start keyed keys swept expired_by key_filter renewed is e clean some known = record {
  bound = omega arith;
  rising = subst IsRising (sym e) is.rising;
  sorted = subst AreKeys (sym clean) (IsStrictlySortedBy-filter expiry_cmp (λ k. is_left expired_by k.exp) keys is.sorted);
  told = λ kept. subst (TellUses (left_of None swept)) (sym e) (subst (λ ks. TellUses ks (drop start items)) (sym (left_is_all swept ∙ clean)) (is.told kept));
  live = each_true _ (λ u. refl) now;
  some = some;
  known = known;
}

-- the same without the dropped keys
pub run_swept : (items : List Use) (start : ℕ) (keyed : Bool) (keys swept : List Expiry) (expired_by : Option ℕ) (key_filter : List ℕ) → IsRun items start keyed keys expired_by key_filter → swept ≡ left_of expired_by keys → IsRun items start keyed swept None key_filter
run_swept items start keyed keys swept expired_by key_filter is clean = record {
  bound = is.bound;
  rising = is.rising;
  sorted = subst AreKeys (sym clean) (IsStrictlySortedBy-filter expiry_cmp (λ k. is_left expired_by k.exp) keys is.sorted);
  told = λ kept. subst (λ ks. TellUses ks (drop start items)) (sym (left_is_all swept ∙ clean)) (is.told kept);
  live = each_true _ (λ u. refl) (drop start items);
  some = is.some;
  known = is.known;
}

-- the uses of all runs
pub all_append : (rs ss : List (List Use)) → all_of (rs ++ ss) ≡ all_of rs ++ all_of ss
all_append [] ss = refl
all_append (r ∷ rs) ss = ap (λ us. r ++ us) (all_append rs ss) ∙ sym (append_assoc r (all_of rs) (all_of ss))

-- one more run without its expired uses
pub record IsDroppedSoFar (now old : List (List Use)) (i moment dropped : ℕ) : Type 0 where
  pub long : length now ≡ length old
  pub rest : drop i now ≡ drop i old
  pub kept : all_of (take i now) ≡ live_of moment (all_of (take i old))
  pub counted : dropped + length (all_of now) ≡ length (all_of old)

same_head : (x y : List Use) (xs ys : List (List Use)) → ◌≡◌ {A = List (List Use)} (x ∷ xs) (y ∷ ys) → x ≡ y
same_head x y xs ys e = cc

same_tail : (x y : List Use) (xs ys : List (List Use)) → ◌≡◌ {A = List (List Use)} (x ∷ xs) (y ∷ ys) → xs ≡ ys
same_tail x y xs ys e = cc

pub live_append : (moment : ℕ) (us vs : List Use) → live_of moment (us ++ vs) ≡ live_of moment us ++ live_of moment vs
live_append moment [] vs = refl
live_append moment (u ∷ us) vs = elim (nat_lt moment u.exp) as (λ b. cond b (u ∷ live_of moment (us ++ vs)) (live_of moment (us ++ vs)) ≡ cond b (u ∷ live_of moment us) (live_of moment us) ++ live_of moment vs) [
  | true ↦ ap (λ ws. u ∷ ws) (live_append moment us vs)
  | false ↦ live_append moment us vs
]

-- the total length after one run is replaced
set_length : (rs : List (List Use)) (i : ℕ) (r s : List Use) → i < length rs → r ≡ get_or rs i r → length (all_of (set rs i s)) + length r ≡ length (all_of rs) + length s
set_length [] i r s within at = absurd (omega arith)
set_length (x ∷ rs) zero r s within at = omega (arith, length-append s (all_of rs), length-append x (all_of rs), ap length at)
set_length (x ∷ rs) (suc i) r s within at = omega (arith, length-append x (all_of (set rs i s)), length-append x (all_of rs), set_length rs i r s (omega arith) at)

drop_past_set : (rs : List (List Use)) (i : ℕ) (s : List Use) → drop (suc i) (set rs i s) ≡ drop (suc i) rs
drop_past_set [] zero s = refl
drop_past_set [] (suc i) s = refl
drop_past_set (x ∷ rs) zero s = refl
drop_past_set (x ∷ rs) (suc i) s = drop_past_set rs i s

pub drops_more : (now old : List (List Use)) (i moment dropped went : ℕ) (run left : List Use) → IsDroppedSoFar now old i moment dropped → i < length now → run ≡ get_or now i run → left ≡ live_of moment run → went + length left ≡ length run → IsDroppedSoFar (set now i left) old (i + 1) moment (dropped + went)
drops_more now old i moment dropped went run left is within at kept counted =
    let here : drop i now ≡ run ∷ drop (suc i) now = drop-cons now i run within ∙ ap (λ r. r ∷ drop (suc i) now) (sym at) in
    let there : drop i old ≡ get_or old i run ∷ drop (suc i) old = drop-cons old i run (omega (arith, is.long)) in
    let both : run ∷ drop (suc i) now ≡ get_or old i run ∷ drop (suc i) old = sym here ∙ is.rest ∙ there in
    let same : run ≡ get_or old i run = same_head _ _ _ _ both in
    let front : all_of (take (suc i) old) ≡ all_of (take i old) ++ run = ap all_of (take-suc old i run (omega (arith, is.long))) ∙ all_append (take i old) (get_or old i run ∷ []) ∙ ap (λ us. all_of (take i old) ++ us) (append-nil (get_or old i run) ∙ sym same) in
    let next : i + 1 ≡ suc i = omega arith in
    subst (λ n. IsDroppedSoFar (set now i left) old n moment (dropped + went)) (sym next) (record {
      long = length-set now i left ∙ is.long;
      rest = drop_past_set now i left ∙ same_tail _ _ _ _ both;
      kept = ap all_of (take-suc-set now i left within) ∙ all_append (take i now) (left ∷ []) ∙ (λ j. is.kept j ++ (append-nil left ∙ kept) j) ∙ sym (ap (live_of moment) front ∙ live_append moment (all_of (take i old)) run);
      counted = omega (arith, set_length now i run left within at, counted, is.counted);
    })

pub dropped_all : (now old : List (List Use)) (i moment dropped : ℕ) → IsDroppedSoFar now old i moment dropped → length now ≤ i → all_of now ≡ live_of moment (all_of old)
dropped_all now old i moment dropped is done = ap all_of (sym (take_all i now done)) ∙ is.kept ∙ ap (λ rs. live_of moment (all_of rs)) (take_all i old (omega (arith, is.long, done)))

-- how many uses there are
length-keys : (s : Uses) → count s ≡ finmap.len s
unfolding rising
length-keys s = length-map (finmap.entries s) (λ e. e.0) ∙ sym (finmap.len-entries s)

pub count-with : (s : Uses) (u : Use) → count (with s u) ≡ cond (holds s u) (count s) (count s + 1)
unfolding with holds
count-with s u = length-keys (with s u) ∙ finmap.len-insert use_total s u tt ∙ (λ i. cond (holds s u) (sym (length-keys s) i) (sym (length-keys s) i + 1))

count_with_all : (s : Uses) (us : List Use) → count (with_all s us) ≤ count s + length us
count_with_all s [] = omega arith
count_with_all s (u ∷ us) = elim (holds s u) as (λ b. count (with s u) ≡ cond b (count s) (count s + 1) → count (with_all (with s u) us) ≤ count s + suc (length us)) [
  | true ↦ λ e. omega (arith, e, count_with_all (with s u) us)
  | false ↦ λ e. omega (arith, e, count_with_all (with s u) us)
] (count-with s u)

pub count_none : count (uses_in []) ≡ 0
unfolding IsStrictlySortedBy
count_none = ap length (rising-uses_in [] tt)

pub count_le : (us : List Use) → count (uses_in us) ≤ length us
count_le us = omega (arith, count_with_all (uses_in []) us, count_none)

both_parts : (p : Use → Bool) (us : List Use) → length (filter p us) + length (filter (λ u. not (p u)) us) ≡ length us
both_parts p [] = refl
both_parts p (u ∷ us) = elim (p u) as (λ b. length (cond b (u ∷ filter p us) (filter p us)) + length (cond (not b) (u ∷ filter (λ v. not (p v)) us) (filter (λ v. not (p v)) us)) ≡ suc (length us)) [
  | true ↦ omega (arith, both_parts p us)
  | false ↦ omega (arith, both_parts p us)
]

-- a list without duplicates has none where some are left out
pub once_filter : (p : Use → Bool) (us : List Use) → length us ≡ count (uses_in us) → length (filter p us) ≡ count (uses_in (filter p us))
once_filter p us once =
    let q = λ (u : Use). not (p u) in
    let kept = ap count (uses_in-filter p us) ∙ ap length (rising-keep p (uses_in us)) in
    let left = ap count (uses_in-filter q us) ∙ ap length (rising-keep q (uses_in us)) in
    omega (arith, kept, left, both_parts p us, both_parts p (rising (uses_in us)), once, count_le (filter p us), count_le (filter q us))

-- the whole store
pub runs_none : IsRuns [] 0
runs_none = record { few = omega arith; long = refl; once = sym count_none }

pub record IsDropped (rest : List (List Use)) (total dropped moment : ℕ) (s : Uses) : Type 0 where
  pub bound : dropped ≤ total
  pub is : IsRuns rest (total - dropped)
  pub kept : uses_in (all_of rest) ≡ live s moment
  pub counted : dropped + count (uses_in (all_of rest)) ≡ count s

pub runs_dropped : (runs rest : List (List Use)) (total dropped moment : ℕ) (s : Uses) → IsRuns runs total → uses_in (all_of runs) ≡ s → all_of rest ≡ live_of moment (all_of runs) → dropped + length (all_of rest) ≡ length (all_of runs) → length rest ≡ length runs → IsDropped rest total dropped moment s
runs_dropped runs rest total dropped moment s is view kept counted same =
    let once = once_filter (λ u. nat_lt moment u.exp) (all_of runs) (sym is.long ∙ is.once) in
    let after : length (all_of rest) ≡ count (uses_in (all_of rest)) = ap length kept ∙ once ∙ ap (λ us. count (uses_in us)) (sym kept) in
    let old : count s ≡ total = ap count (sym view) ∙ sym is.once in
    record {
      bound = omega (arith, is.long, counted);
      is = record {
        few = omega (arith, is.few, same);
        long = omega (arith, is.long, counted);
        once = omega (arith, is.long, counted, after);
      };
      kept = ap uses_in kept ∙ uses_in-filter (λ u. nat_lt moment u.exp) (all_of runs) ∙ ap (λ t. live t moment) view;
      counted = omega (arith, is.long, counted, after, old);
    }

same_sets : (us vs : List Use) → HasSame us vs → uses_in vs ≡ uses_in us
same_sets us vs same = same_uses (uses_in vs) (uses_in us) (λ q. holds-uses_in vs q ∙ same q ∙ sym (holds-uses_in us q))

-- a store, and what it holds
pub record IsStored (runs : List (List Use)) (total : ℕ) (s : Uses) : Type 0 where
  pub is : IsRuns runs total
  pub view : uses_in (all_of runs) ≡ s

-- runs rearranged within the store
pub runs_merged : (runs rest : List (List Use)) (total : ℕ) (s : Uses) → IsStored runs total s → AreMerged runs rest → IsStored rest total s
runs_merged runs rest total s was merged =
    let sets = same_sets (all_of runs) (all_of rest) merged.same in
    let counts = ap count sets in
    record {
      is = record {
        few = omega (arith, was.is.few, merged.fewer);
        long = omega (arith, count_le (all_of rest), counts, was.is.long, was.is.once, merged.less);
        once = was.is.once ∙ sym counts;
      };
      view = sets ∙ was.view;
    }

pub runs_tidied : (runs rest : List (List Use)) (total : ℕ) (s : Uses) → IsStored runs total s → all_of rest ≡ all_of runs → length rest ≤ length runs → IsStored rest total s
runs_tidied runs rest total s was same fewer = runs_merged runs rest total s was (record { same = λ q. ap (list_any (eq_by_cmp use_cmp q)) same; less = omega (arith, ap length same); fewer = fewer })

-- the store holds what the runs have
store_holds : (runs : List (List Use)) (s : Uses) (u : Use) → uses_in (all_of runs) ≡ s → holds s u ≡ list_any (eq_by_cmp use_cmp u) (all_of runs)
store_holds runs s u view = ap (λ t. holds t u) (sym view) ∙ holds-uses_in (all_of runs) u

pub runs_held : (runs : List (List Use)) (s : Uses) (u : Use) → uses_in (all_of runs) ≡ s → list_any (eq_by_cmp use_cmp u) (all_of runs) ≡ true → s ≡ with s u
runs_held runs s u view held = with-held s u (store_holds runs s u view ∙ held)

pub runs_lack : (runs : List (List Use)) (s : Uses) (u : Use) → uses_in (all_of runs) ≡ s → list_any (eq_by_cmp use_cmp u) (all_of runs) ≡ false → holds s u ≡ false
runs_lack runs s u view lacks = store_holds runs s u view ∙ lacks

pub rising_none : (us : List Use) → us ≡ [] → IsRising us
unfolding IsStrictlySortedBy
rising_none us e = subst IsRising (sym e) tt

pub rising_one : (u : Use) → IsRising (u ∷ [])
unfolding IsStrictlySortedBy
rising_one u = (tt, tt)

pub front_is : (moment n : ℕ) (us vs : List Use) → n ≡ prefix_len (λ u. not (nat_lt moment u.exp)) us → us ≡ vs → n ≡ prefix_len (λ u. not (nat_lt moment u.exp)) vs
front_is moment n us vs e same = e ∙ ap (prefix_len (λ u. not (nat_lt moment u.exp))) same

-- a look-up by key
any_within : (p : Use → Bool) (us vs : List Use) → ((q : Use) → list_any (eq_by_cmp use_cmp q) us ≡ true → list_any (eq_by_cmp use_cmp q) vs ≡ true) → list_any p us ≡ true → list_any p vs ≡ true
any_within p [] vs sub any = absurd (false≢true any)
any_within p (u ∷ us) vs sub any = elim (p u) as (λ b. p u ≡ b → (b || list_any p us) ≡ true → list_any p vs ≡ true) [
  | true ↦ λ e _. any_use p vs u (sub u (ap (λ o. is_eq o || list_any (eq_by_cmp use_cmp u) us) (tied_itself use_total u))) e
  | false ↦ λ _ rest. any_within p us vs (λ q t. sub q (ap (λ b. eq_by_cmp use_cmp q u || b) t ∙ or-true (eq_by_cmp use_cmp q u))) rest
] refl any

any_rising : (p : Use → Bool) (us : List Use) → list_any p (rising (uses_in us)) ≡ list_any p us
any_rising p us =
    let same = λ (q : Use). sym (holds-rising use_cmp (uses_in us) q) ∙ holds-uses_in us q in
    one_test _ _ (any_within p (rising (uses_in us)) us (λ q t. sym (same q) ∙ t)) (any_within p us (rising (uses_in us)) (λ q t. same q ∙ t))

pub runs_has : (p : Use → Bool) (runs : List (List Use)) (s : Uses) (found : Bool) → uses_in (all_of runs) ≡ s → found ≡ list_any p (all_of runs) → found ≡ list_any p (rising s)
runs_has p runs s found view is = is ∙ sym (any_rising p (all_of runs)) ∙ ap (λ t. list_any p (rising t)) view

-- the next use
least_none : (o : Option Use) → least_of o None ≡ o
least_none None = refl
least_none (Some u) = refl

least_first : (p : Use → Bool) (x : Use) (ys : List Use) → AllByRecursion (λ z. use_cmp x z ≡ Less) ys → Some x ≡ least_of (Some x) (find p ys)
least_first p x [] below = refl
least_first p x (y ∷ ys) below = elim (p y) as (λ b. Some x ≡ least_of (Some x) (cond b (Some y) (find p ys))) [
  | true ↦ ap (λ o. cond (is_lt o) (Some y) (Some x)) (sym (use_total.antisymm y x ∙ ap ordering_reverse below.0))
  | false ↦ least_first p x ys below.1
]

least_second : (p : Use → Bool) (y : Use) (xs : List Use) → AllByRecursion (λ z. use_cmp y z ≡ Less) xs → Some y ≡ least_of (find p xs) (Some y)
least_second p y [] below = refl
least_second p y (x ∷ xs) below = elim (p x) as (λ b. Some y ≡ least_of (cond b (Some x) (find p xs)) (Some y)) [
  | true ↦ ap (λ o. cond (is_lt o) (Some y) (Some x)) (sym below.0)
  | false ↦ least_second p y xs below.1
]

least_at : (p : Use → Bool) (x : Use) (xs : List Use) → IsRising (x ∷ xs) → ((ys : List Use) → IsRising ys → find p (merge use_cmp xs ys) ≡ least_of (find p xs) (find p ys)) → (ys : List Use) → IsRising ys → find p (merge use_cmp (x ∷ xs) ys) ≡ least_of (find p (x ∷ xs)) (find p ys)
unfolding IsStrictlySortedBy
least_at p x xs s h [] t = sym (least_none (find p (x ∷ xs)))
least_at p x xs s h (y ∷ ys) t = by_rank (λ l. find p l ≡ least_of (find p (x ∷ xs)) (find p (y ∷ ys))) (use_cmp x y) _ _ _
    (λ k. elim (p x) as (λ b. cond b (Some x) (find p (merge use_cmp xs (y ∷ ys))) ≡ least_of (cond b (Some x) (find p xs)) (find p (y ∷ ys))) [
      | true ↦ least_first p x (y ∷ ys) (below_all use_total use_exact x y ys k t.0)
      | false ↦ h (y ∷ ys) t
    ])
    (λ k. let same = use_exact x y k in subst (λ z. find p (x ∷ merge use_cmp xs ys) ≡ least_of (find p (x ∷ xs)) (find p (z ∷ ys))) same
    (elim (p x) as (λ b. cond b (Some x) (find p (merge use_cmp xs ys)) ≡ least_of (cond b (Some x) (find p xs)) (cond b (Some x) (find p ys))) [
      | true ↦ ap (λ o. cond (is_lt o) (Some x) (Some x)) (sym (tied_itself use_total x))
      | false ↦ h ys t.1
    ]))
    (λ k. elim (p y) as (λ b. cond b (Some y) (find p (merge use_cmp (x ∷ xs) ys)) ≡ least_of (find p (x ∷ xs)) (cond b (Some y) (find p ys))) [
      | true ↦ least_second p y (x ∷ xs) (below_all use_total use_exact y x xs (use_total.antisymm y x ∙ ap ordering_reverse k) s.0)
      | false ↦ least_at p x xs s h ys t.1
    ])

find_merged : (p : Use → Bool) (xs ys : List Use) → IsRising xs → IsRising ys → find p (merge use_cmp xs ys) ≡ least_of (find p xs) (find p ys)
unfolding IsStrictlySortedBy
find_merged p [] ys s t = refl
find_merged p (x ∷ xs) ys s t = least_at p x xs s (λ zs. find_merged p xs zs s.1) ys t

pub rising_both : (us vs : List Use) → rising (uses_in (us ++ vs)) ≡ merge use_cmp (rising (uses_in us)) (rising (uses_in vs))
rising_both us vs =
    let xs = rising (uses_in us) in
    let ys = rising (uses_in vs) in
    same_rising use_total use_exact _ _ (rising_rises use_cmp (uses_in (us ++ vs))) (merge_rises use_total use_exact xs ys (rising_rises use_cmp (uses_in us)) (rising_rises use_cmp (uses_in vs))) (λ q.
    let tie = eq_by_cmp use_cmp q in
    any_rising tie (us ++ vs) ∙ list_any-append tie us vs ∙ sym (merge_has use_total use_exact (eq_by_cmp use_cmp q) xs ys ∙ (λ i. any_rising tie us i || any_rising tie vs i)))

next_both : (us vs : List Use) (after : Option Use) → least_of (next_above (uses_in us) after) (next_above (uses_in vs) after) ≡ next_above (uses_in (us ++ vs)) after
next_both us vs after =
    sym (ap (find (is_after after)) (rising_both us vs) ∙ find_merged (is_after after) (rising (uses_in us)) (rising (uses_in vs)) (rising_rises use_cmp (uses_in us)) (rising_rises use_cmp (uses_in vs)))

pub next_in_all : (after : Option Use) (us : List Use) (runs : List (List Use)) → least_from after runs (next_above (uses_in us) after) ≡ next_above (uses_in (us ++ all_of runs)) after
next_in_all after us [] = ap (λ vs. next_above (uses_in vs) after) (sym (append-nil us))
next_in_all after us (r ∷ runs) =
    ap (least_from after runs) (next_both us r after) ∙ next_in_all after (us ++ r) runs ∙ ap (λ vs. next_above (uses_in vs) after) (append_assoc us r (all_of runs))

none_rising : rising (uses_in []) ≡ []
unfolding IsStrictlySortedBy
none_rising = rising-uses_in [] tt

pub store_next : (after found : Option Use) (runs : List (List Use)) (s : Uses) → uses_in (all_of runs) ≡ s → found ≡ least_from after runs None → found ≡ next_above s after
store_next after found runs s view is = is ∙ ap (λ us. least_from after runs (find (is_after after) us)) (sym none_rising) ∙ next_in_all after [] runs ∙ ap (λ t. next_above t after) view

pub run_next : (us vs : List Use) (after found : Option Use) → IsRising us → us ≡ vs → found ≡ find (is_after after) us → found ≡ next_above (uses_in vs) after
run_next us vs after found up e is = is ∙ ap (find (is_after after)) (sym (rising-uses_in us up)) ∙ (λ i. next_above (uses_in (e i)) after)

-- filters
pub bits_stay : (a m n : ℕ) → bit_and a n ≡ n → bit_and (bit_or a m) n ≡ n
bits_stay a m n e = same_from_bits _ _ (λ i.
    let had : min (bit_at a i) (bit_at n i) ≡ bit_at n i = sym (bit_at_and a n i) ∙ ap (λ x. bit_at x i) e in
    let now : min (max (bit_at a i) (bit_at m i)) (bit_at n i) ≡ bit_at n i = omega arith in
    bit_at_and (bit_or a m) n i ∙ ap (λ x. min x (bit_at n i)) (bit_at_or a m i) ∙ now)

bits_kept : (key_filter : List ℕ) (at j m n w : ℕ) → w ≡ get_or key_filter at w → bit_and (get_or key_filter j 0) n ≡ n → bit_and (get_or (set key_filter at (bit_or w m)) j 0) n ≡ n
bits_kept [] at j m n w is e = e
bits_kept (x ∷ ws) zero zero m n w is e = bits_stay w m n (ap (λ y. bit_and y n) is ∙ e)
bits_kept (x ∷ ws) zero (suc j) m n w is e = e
bits_kept (x ∷ ws) (suc at) zero m n w is e = e
bits_kept (x ∷ ws) (suc at) (suc j) m n w is e = bits_kept ws at j m n w is e

pub bits_in_others : (key_filter : List ℕ) (at m w : ℕ) (other : List ℕ) → w ≡ get_or key_filter at w → HasBits key_filter other → HasBits (set key_filter at (bit_or w m)) other
bits_in_others key_filter at m w other is e =
    subst (λ count. bit_and (get_or (set key_filter at (bit_or w m)) (index_of count other) 0) (mask_of other) ≡ mask_of other) (sym (length-set key_filter at (bit_or w m))) (bits_kept key_filter at (index_of (length key_filter) other) m (mask_of other) w is e)

pub known_more : (key_filter now : List ℕ) (us : List Use) (i : ℕ) (d : Use) → AllByRecursion (λ v. HasBits key_filter v.key) (take i us) → ((other : List ℕ) → HasBits key_filter other → HasBits now other) → HasBits now (get_or us i d).key → i < length us → AllByRecursion (λ v. HasBits now v.key) (take (i + 1) us)
known_more key_filter now us i d known others added within =
    let next : i + 1 ≡ suc i = omega arith in
    subst (AllByRecursion (λ v. HasBits now v.key)) (sym (ap (λ n. take n us) next ∙ take-suc us i d within))
    (each_append _ (take i us) (get_or us i d ∷ []) (each_weaker (λ v. HasBits key_filter v.key) _ (λ v h. others v.key h) (take i us) known) (added, tt))

pub unknown_absent : (key_filter : List ℕ) (us : List Use) (u : Use) → AllByRecursion (λ v. HasBits key_filter v.key) us → (HasBits key_filter u.key → ⊥) → list_any (eq_by_cmp use_cmp u) us ≡ false
unknown_absent key_filter us u known unknown = any_none (eq_by_cmp use_cmp u) us (each_weaker (λ v. HasBits key_filter v.key) _ (λ v h. elim (eq_by_cmp use_cmp u v) as (λ b. eq_by_cmp use_cmp u v ≡ b → b ≡ false) [
  | true ↦ λ e. absurd (unknown (subst (λ w. HasBits key_filter w.key) (sym (use_exact u v (equal _ e))) h))
  | false ↦ λ e. refl
] refl) us known)

pub run_unknown : (items told : List Use) (start : ℕ) (keyed : Bool) (keys : List Expiry) (expired_by : Option ℕ) (key_filter : List ℕ) (u : Use) → IsRun items start keyed keys expired_by key_filter → drop start items ≡ told → (HasBits key_filter u.key → ⊥) → false ≡ list_any (eq_by_cmp use_cmp u) told
run_unknown items told start keyed keys expired_by key_filter u is view unknown = sym (sym (ap (list_any (eq_by_cmp use_cmp u)) view) ∙ unknown_absent key_filter (drop start items) u is.known unknown)

-- a run from which nothing was dropped
pub run_made : (items us : List Use) (keyed : Bool) (keys : List Expiry) (key_filter : List ℕ) → IsRising items → us ≡ items → AreKeys keys → (keyed ≡ true → TellUses keys us) → 0 < length key_filter → AllByRecursion (λ u. HasBits key_filter u.key) us → IsRun items 0 keyed keys None key_filter
run_made items us keyed keys key_filter up same sorted told some known = record {
  bound = omega arith;
  rising = up;
  sorted = sorted;
  told = λ kept. subst (TellUses (left_of None keys)) same (subst (λ ks. TellUses ks us) (sym (left_is_all keys)) (told kept));
  live = each_true _ (λ u. refl) items;
  some = some;
  known = subst (AllByRecursion (λ u. HasBits key_filter u.key)) same known;
}

-- the keys of a keyed run stand for its uses
pub run_tells : (items told : List Use) (start : ℕ) (keyed : Bool) (keys : List Expiry) (expired_by : Option ℕ) (key_filter : List ℕ) → IsRun items start keyed keys expired_by key_filter → drop start items ≡ told → keyed ≡ true → TellUses (left_of expired_by keys) told
run_tells items told start keyed keys expired_by key_filter is view kept = subst (TellUses (left_of expired_by keys)) view (is.told kept)

-- no use has a key that a filter of the uses does not know
pub run_lacks : (items told : List Use) (start : ℕ) (keyed : Bool) (keys : List Expiry) (expired_by : Option ℕ) (key_filter : List ℕ) (withdrawn : Bool) (key : List ℕ) → IsRun items start keyed keys expired_by key_filter → drop start items ≡ told → (HasBits key_filter key → ⊥) → false ≡ list_any (is_sought withdrawn key) told
run_lacks items told start keyed keys expired_by key_filter withdrawn key is view unknown = sym (sym (ap (list_any (is_sought withdrawn key)) view) ∙ any_none (is_sought withdrawn key) (drop start items) (each_weaker (λ v. HasBits key_filter v.key) _ (λ v h. false_from_ne_true _ (λ sought.
    unknown (subst (HasBits key_filter) (same_key key v.key (sought_key withdrawn key v sought)) h))) (drop start items) is.known))

-- the keys of two runs in one, where both are keyed
pub record AreMergedKeys (keyed : Bool) (keys : List Expiry) (us : List Use) : Type 0 where
  pub sorted : AreKeys keys
  pub told : keyed ≡ true → TellUses keys us

pub keys_merged : (items told others told' : List Use) (start start' : ℕ) (keyed keyed' : Bool) (keys keys' : List Expiry) (expired_by expired_by' : Option ℕ) (key_filter key_filter' : List ℕ) (merged : List Expiry) (uses : List Use) → IsRun items start keyed keys expired_by key_filter → IsRun others start' keyed' keys' expired_by' key_filter' → drop start items ≡ told → drop start' others ≡ told' → merged ≡ merge expiry_cmp (left_of expired_by keys) (left_of expired_by' keys') → uses ≡ merge use_cmp told told' → AreMergedKeys (keyed && keyed') merged uses
keys_merged items told others told' start start' keyed keyed' keys keys' expired_by expired_by' key_filter key_filter' merged uses is is' view view' e f = record {
  sorted = subst AreKeys (sym e) (merge_rises until_total until_exact _ _ (IsStrictlySortedBy-filter expiry_cmp (λ k. is_left expired_by k.exp) keys is.sorted) (IsStrictlySortedBy-filter expiry_cmp (λ k. is_left expired_by' k.exp) keys' is'.sorted));
  told = λ both.
      subst (TellUses merged) (sym f) (subst (λ ks. TellUses ks (merge use_cmp told told')) (sym e) (tell_merged (left_of expired_by keys) (left_of expired_by' keys') told told' (run_tells items told start keyed keys expired_by key_filter is view (first_true keyed keyed' both)) (run_tells others told' start' keyed' keys' expired_by' key_filter' is' view' (first_true keyed' keyed (and-comm keyed' keyed ∙ both)))));
}

-- a use at an index, among uses with the same property
pub known_insert : (key_filter : List ℕ) (us : List Use) (index : ℕ) (new : Use) → HasBits key_filter new.key → AllByRecursion (λ u. HasBits key_filter u.key) us → AllByRecursion (λ u. HasBits key_filter u.key) (take index us ++ new ∷ drop index us)
known_insert key_filter us index new here known = each_append _ (take index us) (new ∷ drop index us) (each_take _ index us known) (here, each_drop _ index us known)

-- many uses at once
greater_differs : (u v : Use) → use_cmp u v ≡ Less → eq_by_cmp use_cmp v u ≡ false
greater_differs u v less = ap is_eq (use_total.antisymm v u ∙ ap ordering_reverse less)

still_new : (s : Uses) (u : Use) (vs : List Use) → AllByRecursion (λ v. use_cmp u v ≡ Less) vs → AllByRecursion (λ v. holds s v ≡ false) vs → AllByRecursion (λ v. holds (with s u) v ≡ false) vs
still_new s u [] above new = tt
still_new s u (v ∷ vs) above new = (holds-with use_total use_exact s u v ∙ (λ i. greater_differs u v above.0 i || new.0 i), still_new s u vs above.1 new.1)

-- adding uses that the set does not hold adds their number to its count
count_new : (s : Uses) (us : List Use) → IsRising us → AllByRecursion (λ u. holds s u ≡ false) us → count (with_all s us) ≡ count s + length us
unfolding IsStrictlySortedBy
count_new s [] up new = omega arith
count_new s (u ∷ us) up new =
    let one : count (with s u) ≡ count s + 1 = count-with s u ∙ ap (λ b. cond b (count s) (count s + 1)) new.0 in
    omega (arith, one, count_new (with s u) us up.1 (still_new s u us up.0 new.1))

-- uses are added that the store does not hold
pub runs_all : (runs rest : List (List Use)) (total : ℕ) (s : Uses) (new : List Use) → IsStored runs total s → IsRising new → AllByRecursion (λ u. holds s u ≡ false) new → ArePutIn new runs rest → IsStored rest (total + length new) (with_all s new)
runs_all runs rest total s new was up absent put =
    let sets : uses_in (all_of rest) ≡ with_all s new = same_uses _ _ (λ q.
    let tie = eq_by_cmp use_cmp q in
    holds-uses_in (all_of rest) q ∙ put.same q ∙ list_any-append tie new (all_of runs)
    ∙ ap (λ b. list_any tie new || b) (sym (store_holds runs s q was.view))
    ∙ sym (holds-with_all use_total use_exact s new q)) in
    let grown : count (with_all s new) ≡ count s + length new = count_new s new up absent in
    record {
      is = record {
        few = put.few was.is.few;
        long = omega (arith, count_le (all_of rest), ap count sets, grown, was.is.long, was.is.once, ap count was.view, put.less);
        once = omega (arith, ap count sets, grown, was.is.once, ap count was.view);
      };
      view = sets;
    }

-- one run that also has new uses, in its old position
set_has : (p : Use → Bool) (new : List Use) (runs : List (List Use)) (i : ℕ) (run now : List Use) → i < length runs → run ≡ get_or runs i run → list_any p now ≡ (list_any p new || list_any p run) → list_any p (all_of (set runs i now)) ≡ (list_any p new || list_any p (all_of runs))
set_has p new [] i run now within at has = absurd (omega (arith, within))
set_has p new (r ∷ rs) zero run now within at has =
    list_any-append p now (all_of rs) ∙ ap (λ b. b || list_any p (all_of rs)) (has ∙ ap (λ us. list_any p new || list_any p us) at)
    ∙ sym (first_alike (list_any p new) (list_any p r) (list_any p (all_of rs))) ∙ ap (λ b. list_any p new || b) (sym (list_any-append p r (all_of rs)))
set_has p new (r ∷ rs) (suc i) run now within at has =
    list_any-append p r (all_of (set rs i now)) ∙ ap (λ b. list_any p r || b) (set_has p new rs i run now (omega (arith, within)) at has)
    ∙ to_front (list_any p r) (list_any p new) (list_any p (all_of rs)) ∙ ap (λ b. list_any p new || b) (sym (list_any-append p r (all_of rs)))

pub put_in_place : (new : List Use) (runs rest : List (List Use)) (i : ℕ) (run now : List Use) → i < length runs → run ≡ get_or runs i run → HasSame (new ++ run) now → length now ≤ length new + length run → rest ≡ set runs i now → ArePutIn new runs rest
put_in_place new runs rest i run now within at same less is =
    let long = set_length runs i run now within at in
    record {
      same = λ q.
          let tie = eq_by_cmp use_cmp q in
          ap (λ rs. list_any tie (all_of rs)) is ∙ set_has tie new runs i run now within at (same q ∙ list_any-append tie new run) ∙ sym (list_any-append tie new (all_of runs));
      less = omega (arith, long, less, ap (λ rs. length (all_of rs)) is);
      few = λ few. omega (arith, few, ap length is, length-set runs i now);
    }

-- a run of them after the others
pub put_behind : (new : List Use) (runs rest : List (List Use)) (run : List Use) → run ≡ new → (length runs ≤ 64 → length runs < 64) → rest ≡ runs ++ run ∷ [] → ArePutIn new runs rest
put_behind new runs rest run same room is =
    let all : all_of rest ≡ all_of runs ++ new = ap all_of is ∙ all_append runs (run ∷ []) ∙ ap (λ us. all_of runs ++ us) (append-nil run ∙ same) in
    record {
      same = λ q.
          let tie = eq_by_cmp use_cmp q in
          ap (list_any tie) all ∙ list_any-append tie (all_of runs) new ∙ or-comm (list_any tie (all_of runs)) (list_any tie new) ∙ sym (list_any-append tie new (all_of runs));
      less = omega (arith, ap length all, length-append (all_of runs) new);
      few = λ few. omega (arith, room few, ap length is, length-append runs (run ∷ []));
    }

-- runs that are merged, step by step
pub merged_none : (rs : List (List Use)) → AreMerged rs rs
merged_none rs = record { same = λ q. refl; less = omega arith; fewer = omega arith }

pub merged_more : (rs ss ts : List (List Use)) → AreMerged rs ss → AreMerged ss ts → AreMerged rs ts
merged_more rs ss ts a b = record { same = λ q. b.same q ∙ a.same q; less = omega (arith, a.less, b.less); fewer = omega (arith, a.fewer, b.fewer) }

-- a run that took in others
pub merged_has : (new run other now : List Use) → now ≡ merge use_cmp run other → other ≡ new → HasSame (new ++ run) now
merged_has new run other now is same q =
    let tie = eq_by_cmp use_cmp q in
    ap (list_any tie) is ∙ merge_has use_total use_exact tie run other ∙ ap (λ us. list_any tie run || list_any tie us) same ∙ or-comm (list_any tie run) (list_any tie new) ∙ sym (list_any-append tie new run)

pub merged_less : (new run other now : List Use) → now ≡ merge use_cmp run other → other ≡ new → length now ≤ length new + length run
merged_less new run other now is same = omega (arith, ap length is, merge_length use_cmp run other, ap length same)

-- the last run merged into the one before it, and removed
pub merged_two : (rs lent front last back over now : List (List Use)) (count n : ℕ) (older newer merged : List Use) → 2 ≤ count → count ≡ length rs → count ≤ n → lent ≡ rs → front ≡ take (count - 1) lent → older ≡ get_or front (count - 2) older → last ≡ drop (count - 1) lent → newer ≡ get_or last 0 newer → merged ≡ merge use_cmp older newer → now ≡ take (count - 1) (take n ((set front (count - 2) merged ++ back) ++ over)) → AreMerged rs now
merged_two rs lent front last back over now count n older newer merged two long room same part at_older rest at_last made after =
    let is : front ≡ take (count - 1) rs = part ∙ ap (take (count - 1)) same in
    let at_newer : newer ≡ get_or (drop (count - 1) rs) 0 newer = at_last ∙ ap (λ ss. get_or ss 0 newer) (rest ∙ ap (drop (count - 1)) same) in
    let flong : length front ≡ count - 1 = omega (arith, ap length is, length-take (count - 1) rs, long, two) in
    let end : drop (count - 1) rs ≡ get_or rs (count - 1) newer ∷ [] = drop-cons rs (count - 1) newer (omega (arith, long, two)) ∙ ap (λ ss. get_or rs (count - 1) newer ∷ ss) (drop_all (suc (count - 1)) rs (omega (arith, long, two))) in
    let at : newer ≡ get_or rs (count - 1) newer = at_newer ∙ ap (λ ss. get_or ss 0 newer) end in
    let whole : rs ≡ front ++ newer ∷ [] = sym (take-append-drop (count - 1) rs) ∙ (λ i. sym is i ++ (end ∙ ap (λ r. r ∷ []) (sym at)) i) in
    let all : all_of rs ≡ all_of front ++ newer = ap all_of whole ∙ all_append front (newer ∷ []) ∙ ap (λ us. all_of front ++ us) (append-nil newer) in
    let fits : length (set front (count - 2) merged) ≡ count - 1 = length-set front (count - 2) merged ∙ flong in
    let placed : now ≡ set front (count - 2) merged = after ∙ take-take (count - 1) n ((set front (count - 2) merged ++ back) ++ over) (omega (arith, room)) ∙ ap (take (count - 1)) (append_assoc (set front (count - 2) merged) back over) ∙ take-append-le (count - 1) (set front (count - 2) merged) (back ++ over) (omega (arith, fits)) ∙ take_all (count - 1) (set front (count - 2) merged) (omega (arith, fits)) in
    let step : ArePutIn newer front now = put_in_place newer front now (count - 2) older merged (omega (arith, flong, two)) at_older (merged_has newer older newer merged made refl) (merged_less newer older newer merged made refl) placed in
    record {
      same = λ q.
          let tie = eq_by_cmp use_cmp q in
          step.same q ∙ list_any-append tie newer (all_of front) ∙ or-comm (list_any tie newer) (list_any tie (all_of front)) ∙ sym (list_any-append tie (all_of front) newer) ∙ sym (ap (list_any tie) all);
      less = omega (arith, step.less, ap length all, length-append (all_of front) newer);
      fewer = omega (arith, ap length placed, fits, long);
    }

-- without those that have no uses
pub all_filled : (rs : List (List Use)) → all_of (filter (λ run. not (nat_eq (length run) 0)) rs) ≡ all_of rs
all_filled [] = refl
all_filled ([] ∷ rs) = all_filled rs
all_filled ((u ∷ us) ∷ rs) =
    let kept = filter (λ (run : List Use). not (nat_eq (length run) 0)) rs in
    let some : not (nat_eq (suc (length us)) 0) ≡ true = grind (arith, nat_tests) in
    ap (λ b. all_of (cond b ((u ∷ us) ∷ kept) kept)) some ∙ ap (λ vs. (u ∷ us) ++ vs) (all_filled rs)

pub each_filled : (rs : List (List Use)) → AllByRecursion (λ run. 0 < length run) (filter (λ run. not (nat_eq (length run) 0)) rs)
each_filled rs =
    let test = λ (run : List Use). not (nat_eq (length run) 0) in
    each_weaker (λ run. test run ≡ true) _ (λ run e. grind (arith, nat_tests, e)) (filter test rs) (recursion_from_All _ (filter test rs) (filter_passes test rs))

-- a run and its filter after a use was added
pub run_grown : (now : List Use) (start : ℕ) (keys : List Expiry) (key_filter : List ℕ) → start ≤ length now → IsRising (drop start now) → AreKeys keys → 0 < length key_filter → AllByRecursion (λ u. HasBits key_filter u.key) (drop start now) → IsRun now start false keys None key_filter
run_grown now start keys key_filter bound up sorted some known = record {
  bound = bound;
  rising = up;
  sorted = sorted;
  told = λ kept. absurd (false≢true kept);
  live = each_true _ (λ u. refl) (drop start now);
  some = some;
  known = known;
}

-- the same with other keys that stand for its uses
pub run_keyed : (items told us : List Use) (start : ℕ) (keyed : Bool) (keys others : List Expiry) (expired_by : Option ℕ) (key_filter : List ℕ) → IsRun items start keyed keys expired_by key_filter → drop start items ≡ told → us ≡ told → AreKeys others → TellUses others us → IsRun items start true others None key_filter
run_keyed items told us start keyed keys others expired_by key_filter is view same sorted tells = record {
  bound = is.bound;
  rising = is.rising;
  sorted = sorted;
  told = λ kept. subst (TellUses (left_of None others)) (same ∙ sym view) (subst (λ ks. TellUses ks us) (sym (left_is_all others)) tells);
  live = each_true _ (λ u. refl) (drop start items);
  some = is.some;
  known = is.known;
}

pub keys_none : (keys : List Expiry) → keys ≡ [] → AreKeys keys
unfolding IsStrictlySortedBy
keys_none keys e = subst AreKeys (sym e) tt

-- a vector after a change through its slice
pub written_back : (n : ℕ) (now old : List ℕ) → length now ≡ n → take n (now ++ drop (length now) old) ≡ now
written_back n now old long = take-append-le n now (drop (length now) old) (omega (arith, long)) ∙ take_all n now (omega (arith, long))

pub longer_by_one : (run now : List Use) (new : Use) → IsRising run → IsRising now → uses_in now ≡ with (uses_in run) new → length now ≤ length run + 1
longer_by_one run now new up rises is =
    let before : count (uses_in run) ≡ length run = ap length (rising-uses_in run up) in
    let after : count (uses_in now) ≡ length now = ap length (rising-uses_in now rises) in
    elim (holds (uses_in run) new) as (λ b. count (uses_in now) ≡ cond b (count (uses_in run)) (count (uses_in run) + 1) → length now ≤ length run + 1) [
      | true ↦ λ e. omega (arith, e, before, after)
      | false ↦ λ e. omega (arith, e, before, after)
    ] (ap count is ∙ count-with (uses_in run) new)

-- what a run has after a use was added
pub has_with : (run now : List Use) (new : Use) → IsRising run → uses_in now ≡ with (uses_in run) new → HasSame (new ∷ run) now
has_with run now new up is q =
    sym (holds-uses_in now q) ∙ ap (λ t. holds t q) is ∙ holds-with use_total use_exact (uses_in run) new q ∙ ap (λ b. eq_by_cmp use_cmp q new || b) (holds-uses_in run q)

was_not : (b : Bool) → not b ≡ true → b ≡ false
was_not true e = absurd (false≢true e)
was_not false e = refl

-- those of the uses that are not held are not in the set
pub new_absent : (held : List Use) (s : Uses) (us : List Use) → uses_in held ≡ s → AllByRecursion (λ u. holds s u ≡ false) (new_among held us)
new_absent held s us view =
    let test = λ (u : Use). not (list_any (eq_by_cmp use_cmp u) held) in
    each_weaker (λ u. test u ≡ true) _ (λ u e. ap (λ t. holds t u) (sym view) ∙ holds-uses_in held u ∙ was_not _ e) (filter test us) (recursion_from_All _ (filter test us) (filter_passes test us))

left_or_held : (h any : Bool) → ((not h && any) || h) ≡ (any || h)
left_or_held true any = sym (or-true any)
left_or_held false any = refl

-- a set with those of the uses that it does not hold is the set with all of them
pub with_new : (held : List Use) (s : Uses) (us : List Use) → uses_in held ≡ s → with_all s (new_among held us) ≡ with_all s us
with_new held s us view = same_uses _ _ (λ q.
    let has : list_any (eq_by_cmp use_cmp q) held ≡ holds s q = sym (holds-uses_in held q) ∙ ap (λ t. holds t q) view in
    holds-with_all use_total use_exact s (new_among held us) q ∙ ap (λ b. b || holds s q) (any-filter (λ u. not (list_any (eq_by_cmp use_cmp u) held)) q us ∙ ap (λ h. not h && list_any (eq_by_cmp use_cmp q) us) has)
    ∙ left_or_held (holds s q) (list_any (eq_by_cmp use_cmp q) us) ∙ sym (holds-with_all use_total use_exact s us q))

-- after one more use was checked
pub new_more : (held us now : List Use) (i : ℕ) (d : Use) → i < length us → now ≡ new_among held (take i us) → not (list_any (eq_by_cmp use_cmp (get_or us i d)) held) ≡ true → now ++ get_or us i d ∷ [] ≡ new_among held (take (i + 1) us)
new_more held us now i d within so_far e =
    let test = λ (u : Use). not (list_any (eq_by_cmp use_cmp u) held) in
    ap (λ xs. xs ++ get_or us i d ∷ []) so_far ∙ sym (filter-in test (take i us) (get_or us i d) e) ∙ sym (ap (filter test) (take_more us i d within))

pub new_same : (held us now : List Use) (i : ℕ) (d : Use) → i < length us → now ≡ new_among held (take i us) → not (list_any (eq_by_cmp use_cmp (get_or us i d)) held) ≡ false → now ≡ new_among held (take (i + 1) us)
new_same held us now i d within so_far e =
    let test = λ (u : Use). not (list_any (eq_by_cmp use_cmp u) held) in
    so_far ∙ sym (filter-out test (take i us) (get_or us i d) e) ∙ sym (ap (filter test) (take_more us i d within))

pub new_rises : (held us now : List Use) → now ≡ new_among held us → IsRising us → IsRising now
new_rises held us now is up = subst IsRising (sym is) (IsStrictlySortedBy-filter use_cmp (λ u. not (list_any (eq_by_cmp use_cmp u) held)) us up)
