-- Sets of uses that are separated by the first bytes of their keys.
use Rattle.std.proofs.Common.{◌≡◌, ◌≢◌, ℕ, ◌<◌, ◌≤◌, ◌+◌, zero, suc, Bool, true, false, cond, ◌||◌, ◌&&◌, List, [], ◌∷◌, ◌++◌, map, filter, find, length, take, drop, get_or, ◌-◌, ◌^◌, min, replicate, nat_eq, nat_lt, Option, Some, None, refl, sym, ◌∙◌, ap, subst, arith}
use Rattle.std.proofs.lemmas.Cmp.{by_ranked, ranked}
use Rattle.std.proofs.Math.ListN.{set, get_or-map}
use Rattle.std.proofs.lemmas.Bool.{eqb-true, eqb-false, false≢true, false_from_ne_true}
use Rattle.std.proofs.lemmas.List.{get_or-set_same, get_or-set_other, length-append, length-drop, length-map, length-replicate, length-set, length-take, map-set, take_more, take_more_set}
use Rattle.std.proofs.lemmas.List.{get_or-map as mapped_at}
use Rattle.std.proofs.Math.Seq.{map-set_same}
use Rattle.std.proofs.lemmas.Bool.Decides.{nat_tests}
use Rattle.std.proofs.lemmas.List.Elements.{recursion_from_All}
use Rattle.std.proofs.lemmas.List.Folds.{list_any-append, sum_by-replicate}
use Rattle.std.proofs.lemmas.List.Kept.{IsStrictlySortedBy-filter}
use Rattle.std.proofs.lemmas.List.Sums.{sum_by-cons, sum_by-set}
use Rattle.std.proofs.lemmas.List.Edits.{map_over_more}
use Rattle.std.specs.List.{AllByRecursion, flat_map, list_any, range_with_len, slice_get, slice_index}
use Rattle.std.specs.List.Sorted.{IsStrictlySortedBy}
use Rattle.std.specs.Cmp.Lexicographic.{slice_cmp}
use Rattle.std.specs.Ordering.{bool_cmp, eq_by_cmp, is_eq, is_lt, nat_cmp, ordering_reverse, ordering_then}
use Rattle.std.specs.declared.cmp.Ordering.{Ordering}
use Rattle.std.specs.declared.cmp.Ordering.TheVariants.{Less, Equal, Greater}
use Rattle.svid_replay.specs.declared.token_use.Use.{Use}
use Rattle.svid_replay.specs.Batches.{is_after, last_of}
use Rattle.svid_replay.specs.Buckets.{bucket, bucket_of}
use Rattle.svid_replay.specs.Runs.{all_of, least_from, least_of}
use Rattle.svid_replay.specs.Sets.{holds, rising, with, with_all}
use Rattle.svid_replay.specs.Twice.{has_key, withdraws}
use Rattle.svid_replay.specs.Use.{IsRising, use_cmp}
use Rattle.svid_replay.specs.Uses.{Uses, count, live, next_above, no_uses, uses_in}
use Rattle.svid_replay.specs.Walks.{IsAhead, exp_if_any, heads_in}
use Rattle.svid_replay.specs.declared.ahead.Ahead.{Ahead}
use Rattle.svid_replay.proofs.BucketsLemmas.{bucket_holds_its_uses}
use Rattle.svid_replay.proofs.IndexedLemmas.{same_key}
use Rattle.svid_replay.proofs.ListLemmas.{any_none, each_weaker}
use Rattle.svid_replay.proofs.RunsLemmas.{count-with, next_in_all, runs_has}
use Rattle.svid_replay.proofs.SetsLemmas.{holds-rising, rising_rises, same_rising}
use Rattle.svid_replay.proofs.TestsLemmas.{equal, or-false}
use Rattle.svid_replay.proofs.UseLemmas.{use_exact, use_total}
use Rattle.svid_replay.proofs.UsesLemmas.{any-filter, find_kept, found_held, held_in_rising, holds-live, holds-uses_in, next_is, no_uses_hold_none, rising-uses_in, same_uses, uses_in-rising, with_holds_one_more, with-held}
use Rattle.svid_replay.proofs.WalksLemmas.{HasMore, room_full, room_more, uses_in-turned}
use Rattle.svid_shards.specs.Shards.{AreApart, AreBehind, AreHeads, ExpireFrom, IsPut, IsSharded, all_in, heads_of, is_before, is_second, least_in, shard, total_of}

-- shards whose numbers are counted on from n
AreApartFrom : ℕ → List Uses → Type 0
AreApartFrom n shards = (i : ℕ) (u : Use) → holds (shard shards i) u ≡ true → bucket_of u ≡ n + i

rest_apart : (n : ℕ) (s : Uses) (ss : List Uses) → AreApartFrom n (s ∷ ss) → AreApartFrom (suc n) ss
unfolding AreApartFrom
rest_apart n s ss apart = λ i u h. omega (arith, apart (suc i) u h)

from_first : (ss : List Uses) → AreApart ss → AreApartFrom 0 ss
unfolding AreApartFrom
from_first ss apart = λ i u h. omega (arith, apart i u h)

-- what no use of a set passes
none_in : (p : Use → Bool) (s : Uses) → ((u : Use) → holds s u ≡ true → p u ≡ false) → list_any p (rising s) ≡ false
none_in p s refused = any_none p (rising s) (each_weaker (λ u. holds s u ≡ true) (λ u. p u ≡ false) refused (rising s) (recursion_from_All (λ u. holds s u ≡ true) (rising s) (λ k d h. held_in_rising s k d h)))

none_later : (p : Use → Bool) (n : ℕ) (ss : List Uses) → AreApartFrom n ss → ((u : Use) → p u ≡ true → bucket_of u < n) → list_any p (flat_map rising ss) ≡ false
unfolding AreApartFrom
none_later p n [] apart low = refl
none_later p n (s ∷ ss) apart low =
    let here = none_in p s (λ u h. false_from_ne_true (p u) (λ e. absurd (omega (arith, low u e, apart 0 u h)))) in
    let later = none_later p (suc n) ss (rest_apart n s ss apart) (λ u e. omega (arith, low u e)) in
    list_any-append p (rising s) (flat_map rising ss) ∙ (λ i. here i || later i)

-- what only uses of one shard pass
any_at : (p : Use → Bool) (n k : ℕ) (ss : List Uses) → AreApartFrom n ss → ((u : Use) → p u ≡ true → bucket_of u ≡ n + k) → list_any p (flat_map rising ss) ≡ list_any p (rising (shard ss k))
unfolding AreApartFrom
any_at p n k [] apart at = sym (none_in p no_uses (λ u h. absurd (false≢true (sym (no_uses_hold_none u) ∙ h))))
any_at p n zero (s ∷ ss) apart at =
    list_any-append p (rising s) (flat_map rising ss)
    ∙ ap (λ b. list_any p (rising s) || b) (none_later p (suc n) ss (rest_apart n s ss apart) (λ u e. omega (arith, at u e))) ∙ or-false (list_any p (rising s))
any_at p n (suc k) (s ∷ ss) apart at =
    list_any-append p (rising s) (flat_map rising ss)
    ∙ ap (λ b. b || list_any p (flat_map rising ss)) (none_in p s (λ u h. false_from_ne_true (p u) (λ e. absurd (omega (arith, at u e, apart 0 u h)))))
    ∙ any_at p (suc n) k ss (rest_apart n s ss apart) (λ u e. omega (arith, at u e))

-- the shards as runs
as_runs : (ss : List Uses) → all_of (map rising ss) ≡ flat_map rising ss
as_runs [] = refl
as_runs (s ∷ ss) = ap (λ us. rising s ++ us) (as_runs ss)

pub any_found : (p : Use → Bool) (k : ℕ) (ss : List Uses) → AreApart ss → ((u : Use) → p u ≡ true → bucket_of u ≡ k) → list_any p (rising (all_in ss)) ≡ list_any p (rising (shard ss k))
unfolding all_in
any_found p k ss apart at =
    sym (ap (λ us. list_any p us) (sym (as_runs ss)) ∙ runs_has p (map rising ss) (uses_in (flat_map rising ss)) (list_any p (all_of (map rising ss))) (ap uses_in (as_runs ss)) refl)
    ∙ any_at p 0 k ss (from_first ss apart) (λ u e. omega (arith, at u e))

-- the set of all shards holds what the shard of a use holds
pub holds_all : (ss : List Uses) → AreApart ss → (u : Use) → holds (all_in ss) u ≡ holds (shard ss (bucket_of u)) u
unfolding all_in
holds_all ss apart u =
    let tie = eq_by_cmp use_cmp u in
    holds-uses_in (flat_map rising ss) u ∙ any_at tie 0 (bucket_of u) ss (from_first ss apart) (λ v e. omega (arith, ap bucket_of (use_exact u v (equal _ e)))) ∙ sym (holds-rising use_cmp (shard ss (bucket_of u)) u)

-- the use that is put in
put_here : (ss : List Uses) (new : Use) (now : List Uses) (i : ℕ) → IsPut ss new now → bucket_of new < length ss → i ≡ bucket_of new → shard now i ≡ with (shard ss i) new
put_here ss new now i is within e =
    ap (λ ts. shard ts i) is ∙ ap (λ j. shard (set ss (bucket_of new) (with (shard ss (bucket_of new)) new)) j) e ∙ get_or-set_same ss (bucket_of new) (with (shard ss (bucket_of new)) new) no_uses within
    ∙ ap (λ j. with (shard ss j) new) (sym e)

put_there : (ss : List Uses) (new : Use) (now : List Uses) (i : ℕ) → IsPut ss new now → i ≢ bucket_of new → shard now i ≡ shard ss i
put_there ss new now i is other = ap (λ ts. shard ts i) is ∙ get_or-set_other ss (bucket_of new) i (with (shard ss (bucket_of new)) new) no_uses other

-- a use that a shard now holds is the new one, which is of that shard, or was there before
put_cases : {G : Type 0} (ss : List Uses) (new : Use) (now : List Uses) (i : ℕ) (u : Use) → IsPut ss new now → bucket_of new < length ss → holds (shard now i) u ≡ true → (u ≡ new → i ≡ bucket_of new → G) → (holds (shard ss i) u ≡ true → G) → G
put_cases {G = G} ss new now i u is within has first later =
    elim (nat_eq i (bucket_of new)) as (λ b. nat_eq i (bucket_of new) ≡ b → G) [
      | true ↦ λ e.
          let here = eqb-true i (bucket_of new) e in
          elim (eq_by_cmp use_cmp u new) as (λ b. eq_by_cmp use_cmp u new ≡ b → G) [
            | true ↦ λ t. first (use_exact u new (equal _ t)) here
            | false ↦ λ t. later (sym (ap (λ s. holds s u) (put_here ss new now i is within here) ∙ with_holds_one_more (shard ss i) new u ∙ ap (λ b. b || holds (shard ss i) u) t) ∙ has)
          ] refl
      | false ↦ λ e. later (sym (ap (λ s. holds s u) (put_there ss new now i is (eqb-false i (bucket_of new) e))) ∙ has)
    ] refl

put_apart : (ss : List Uses) (new : Use) (now : List Uses) → AreApart ss → IsPut ss new now → bucket_of new < length ss → AreApart now
put_apart ss new now apart is within = λ i u has. put_cases ss new now i u is within has (λ e at. ap bucket_of e ∙ sym at) (λ was. apart i u was)

put_lasts : (ss : List Uses) (new : Use) (now : List Uses) (first later : ℕ) → ExpireFrom first ss → IsPut ss new now → bucket_of new < length ss → later ≤ first → later ≤ new.exp → ExpireFrom later now
put_lasts ss new now first later lasting is within low short = λ i u has. put_cases ss new now i u is within has (λ e at. omega (arith, short, ap (λ (v : Use). v.exp) e)) (λ was. omega (arith, low, lasting i u was))

pub put_whole : (ss : List Uses) (new : Use) (now : List Uses) → AreApart ss → IsPut ss new now → bucket_of new < length ss → all_in now ≡ with (all_in ss) new
put_whole ss new now apart is within = same_uses (all_in now) (with (all_in ss) new) (λ q.
    let k = bucket_of q in
    let tie = eq_by_cmp use_cmp q new in
    let before = holds (shard ss k) q in
    let after : holds (shard now k) q ≡ (tie || before) = elim (nat_eq k (bucket_of new)) as (λ b. nat_eq k (bucket_of new) ≡ b → holds (shard now k) q ≡ (tie || before)) [
      | true ↦ λ e. ap (λ s. holds s q) (put_here ss new now k is within (eqb-true k (bucket_of new) e)) ∙ with_holds_one_more (shard ss k) new q
      | false ↦ λ e.
          let other = eqb-false k (bucket_of new) e in
          ap (λ s. holds s q) (put_there ss new now k is other) ∙ ap (λ b. b || before) (sym (false_from_ne_true tie (λ t. other (ap bucket_of (use_exact q new (equal _ t))))))
    ] refl in
    holds_all now (put_apart ss new now apart is within) q ∙ after ∙ sym (with_holds_one_more (all_in ss) new q ∙ ap (λ b. tie || b) (holds_all ss apart q)))

-- the uses that are left
live_none : (moment : ℕ) → no_uses ≡ live no_uses moment
live_none moment = same_uses no_uses (live no_uses moment) (λ u. no_uses_hold_none u ∙ sym (holds-live no_uses moment u ∙ ap (λ b. nat_lt moment u.exp && b) (no_uses_hold_none u) ∙ none (nat_lt moment u.exp)))
  where
    none : (b : Bool) → (b && false) ≡ false
    none true = refl
    none false = refl

live_shard : (ss : List Uses) (moment i : ℕ) → shard (map (λ s. live s moment) ss) i ≡ live (shard ss i) moment
live_shard ss moment i = ap (get_or (map (λ s. live s moment) ss) i) (live_none moment) ∙ get_or-map (λ s. live s moment) ss i no_uses

both : (a b : Bool) → (a && b) ≡ true → (a ≡ true) × (b ≡ true)
both true b e = (refl, e)
both false b e = absurd (false≢true e)

live_held : (ss : List Uses) (moment i : ℕ) (u : Use) → holds (shard (map (λ s. live s moment) ss) i) u ≡ true → (nat_lt moment u.exp ≡ true) × (holds (shard ss i) u ≡ true)
live_held ss moment i u has = both (nat_lt moment u.exp) (holds (shard ss i) u) (sym (ap (λ s. holds s u) (live_shard ss moment i) ∙ holds-live (shard ss i) moment u) ∙ has)

pub live_apart : (ss : List Uses) (moment : ℕ) → AreApart ss → AreApart (map (λ s. live s moment) ss)
live_apart ss moment apart = λ i u has. apart i u (live_held ss moment i u has).1

pub live_whole : (ss : List Uses) (moment : ℕ) → AreApart ss → all_in (map (λ s. live s moment) ss) ≡ live (all_in ss) moment
live_whole ss moment apart = same_uses (all_in (map (λ s. live s moment) ss)) (live (all_in ss) moment) (λ q.
    holds_all (map (λ s. live s moment) ss) (live_apart ss moment apart) q ∙ ap (λ s. holds s q) (live_shard ss moment (bucket_of q)) ∙ holds-live (shard ss (bucket_of q)) moment q
    ∙ sym (holds-live (all_in ss) moment q ∙ ap (λ b. nat_lt moment q.exp && b) (holds_all ss apart q)))

-- how many uses there are
with_all-append : (s : Uses) (us vs : List Use) → with_all s (us ++ vs) ≡ with_all (with_all s us) vs
with_all-append s [] vs = refl
with_all-append s (u ∷ us) vs = with_all-append (with s u) us vs

greater_differs : (u v : Use) → use_cmp u v ≡ Less → eq_by_cmp use_cmp v u ≡ false
greater_differs u v less = ap is_eq (use_total.antisymm v u ∙ ap ordering_reverse less)

still_new : (s : Uses) (u : Use) (vs : List Use) → AllByRecursion (λ v. use_cmp u v ≡ Less) vs → AllByRecursion (λ v. holds s v ≡ false) vs → AllByRecursion (λ v. holds (with s u) v ≡ false) vs
still_new s u [] above new = tt
still_new s u (v ∷ vs) above new = (with_holds_one_more s u v ∙ (λ i. greater_differs u v above.0 i || new.0 i), still_new s u vs above.1 new.1)

count_new : (s : Uses) (us : List Use) → IsRising us → AllByRecursion (λ u. holds s u ≡ false) us → count (with_all s us) ≡ count s + length us
unfolding IsStrictlySortedBy
count_new s [] up new = omega arith
count_new s (u ∷ us) up new =
    let one : count (with s u) ≡ count s + 1 = count-with s u ∙ ap (λ b. cond b (count s) (count s + 1)) new.0 in
    omega (arith, one, count_new (with s u) us up.1 (still_new s u us up.0 new.1))

pub rising_none : rising (uses_in []) ≡ []
unfolding IsStrictlySortedBy
rising_none = rising-uses_in [] tt

count_from : (n : ℕ) (ss : List Uses) → AreApartFrom n ss → count (uses_in (flat_map rising ss)) ≡ total_of ss
unfolding AreApartFrom
count_from n [] apart = ap length rising_none
count_from n (s ∷ ss) apart =
    let rest = flat_map rising ss in
    let absent = λ (u : Use) (h : holds s u ≡ true). let is : holds (uses_in rest) u ≡ false = holds-uses_in rest u ∙ none_later (eq_by_cmp use_cmp u) (suc n) ss (rest_apart n s ss apart) (λ v e. omega (arith, apart 0 u h, ap bucket_of (use_exact u v (equal _ e)))) in is in
    let each = each_weaker (λ u. holds s u ≡ true) (λ u. holds (uses_in rest) u ≡ false) absent (rising s) (recursion_from_All (λ u. holds s u ≡ true) (rising s) (λ k d h. held_in_rising s k d h)) in
    let turned : count (uses_in (rising s ++ rest)) ≡ count (uses_in rest) + count s =
    ap count (uses_in-turned (rising s) rest ∙ with_all-append no_uses rest (rising s)) ∙ count_new (uses_in rest) (rising s) (rising_rises use_cmp s) each in
    omega (arith, turned, sum_by-cons count s ss, count_from (suc n) ss (rest_apart n s ss apart))

pub count_all : (ss : List Uses) → AreApart ss → count (all_in ss) ≡ total_of ss
unfolding all_in
count_all ss apart = count_from 0 ss (from_first ss apart)

-- what comes next
least_heads : (ss : List Uses) (after least : Option Use) → least_in least (heads_of ss after) ≡ least_from after (map rising ss) least
least_heads [] after least = refl
least_heads (s ∷ ss) after least =
    ap (λ t. least_in (least_of least (next_above t after)) (heads_of ss after)) (sym (uses_in-rising s)) ∙ least_heads ss after (least_of least (next_above (uses_in (rising s)) after))

pub next_all : (ss : List Uses) (after : Option Use) → least_in None (heads_of ss after) ≡ next_above (all_in ss) after
unfolding all_in
next_all ss after =
    least_heads ss after None ∙ ap (least_from after (map rising ss)) (sym (ap (find (is_after after)) rising_none)) ∙ next_in_all after [] (map rising ss)
    ∙ ap (λ us. next_above (uses_in us) after) (as_runs ss)

-- the uses of a shard, rising, are those of all that have its number
shard_has : (ss : List Uses) (i : ℕ) (q : Use) → AreApart ss → holds (shard ss i) q ≡ (nat_eq (bucket_of q) i && holds (all_in ss) q)
shard_has ss i q apart = elim (nat_eq (bucket_of q) i) as (λ b. nat_eq (bucket_of q) i ≡ b → holds (shard ss i) q ≡ (b && holds (all_in ss) q)) [
  | true ↦ λ e. ap (λ j. holds (shard ss j) q) (sym (eqb-true (bucket_of q) i e)) ∙ sym (holds_all ss apart q)
  | false ↦ λ e. false_from_ne_true (holds (shard ss i) q) (λ h. eqb-false (bucket_of q) i e (apart i q h))
] refl

rising_shard : (ss : List Uses) (i : ℕ) → AreApart ss → rising (shard ss i) ≡ filter (λ u. nat_eq (bucket_of u) i) (rising (all_in ss))
rising_shard ss i apart =
    let test = λ (u : Use). nat_eq (bucket_of u) i in
    let us = rising (all_in ss) in
    same_rising use_total use_exact (rising (shard ss i)) (filter test us) (rising_rises use_cmp (shard ss i)) (IsStrictlySortedBy-filter use_cmp test us (rising_rises use_cmp (all_in ss))) (λ q.
    sym (holds-rising use_cmp (shard ss i) q) ∙ shard_has ss i q apart ∙ ap (λ b. test q && b) (holds-rising use_cmp (all_in ss) q) ∙ sym (any-filter test q us))

filter_swap : (p q : Use → Bool) (us : List Use) → filter p (filter q us) ≡ filter q (filter p us)
filter_swap p q [] = refl
filter_swap p q (u ∷ us) = elim (p u) as (λ b. p u ≡ b → filter p (cond (q u) (u ∷ filter q us) (filter q us)) ≡ filter q (cond b (u ∷ filter p us) (filter p us))) [
  | true ↦ λ e. elim (q u) as (λ c. q u ≡ c → filter p (cond c (u ∷ filter q us) (filter q us)) ≡ cond (q u) (u ∷ filter q (filter p us)) (filter q (filter p us))) [
    | true ↦ λ f. ap (λ b. cond b (u ∷ filter p (filter q us)) (filter p (filter q us))) e ∙ ap (λ vs. u ∷ vs) (filter_swap p q us) ∙ ap (λ c. cond c (u ∷ filter q (filter p us)) (filter q (filter p us))) (sym f)
    | false ↦ λ f. filter_swap p q us ∙ ap (λ c. cond c (u ∷ filter q (filter p us)) (filter q (filter p us))) (sym f)
  ] refl
  | false ↦ λ e. elim (q u) as (λ c. filter p (cond c (u ∷ filter q us) (filter q us)) ≡ filter q (filter p us)) [
    | true ↦ ap (λ b. cond b (u ∷ filter p (filter q us)) (filter p (filter q us))) e ∙ filter_swap p q us
    | false ↦ filter_swap p q us
  ]
] refl

-- a use that a walk takes changes the next use only in its own shard
head_stays : (ss : List Uses) (last : Option Use) (u : Use) (i : ℕ) → AreApart ss → next_above (all_in ss) last ≡ Some u → i ≢ bucket_of u → next_above (shard ss i) last ≡ next_above (shard ss i) (Some u)
head_stays ss last u i apart next other =
    let us = rising (all_in ss) in
    let test = λ (v : Use). nat_eq (bucket_of v) i in
    let after = λ (a : Option Use). let is : next_above (shard ss i) a ≡ slice_get (filter test (filter (is_after a) us)) 0 = ap (find (is_after a)) (rising_shard ss i apart) ∙ sym (find_kept (is_after a) (filter test us)) ∙ ap (λ vs. slice_get vs 0) (filter_swap (is_after a) test us) in is in
    let out : test u ≡ false = false_from_ne_true (test u) (λ e. other (sym (eqb-true (bucket_of u) i e))) in
    after last ∙ ap (λ vs. slice_get (filter test vs) 0) (next_is last us u (rising_rises use_cmp (all_in ss)) next)
    ∙ ap (λ b. slice_get (cond b (u ∷ filter test (filter (is_after (Some u)) us)) (filter test (filter (is_after (Some u)) us))) 0) out ∙ sym (after (Some u))

map_alike : {X Y : Type 0} (f g : X → Y) (d : X) (xs : List X) → ((i : ℕ) → f (get_or xs i d) ≡ g (get_or xs i d)) → map f xs ≡ map g xs
map_alike f g d [] same = refl
map_alike f g d (x ∷ xs) same = (λ i. same 0 i ∷ map_alike f g d xs (λ j. same (suc j)) i)

map_but_one : {X Y : Type 0} (f g : X → Y) (d : X) (k : ℕ) (xs : List X) → ((i : ℕ) → i ≢ k → f (get_or xs i d) ≡ g (get_or xs i d)) → set (map f xs) k (g (get_or xs k d)) ≡ map g xs
map_but_one f g d k [] same = refl
map_but_one f g d zero (x ∷ xs) same = ap (λ ys. g x ∷ ys) (map_alike f g d xs (λ i. same (suc i) (λ e. absurd (omega (arith, e)))))
map_but_one f g d (suc k) (x ∷ xs) same = (λ i. same 0 (λ e. absurd (omega (arith, e))) i ∷ map_but_one f g d k xs (λ j other. same (suc j) (λ e. other (omega (arith, e)))) i)

pub heads_more : (ss : List Uses) (last : Option Use) (u : Use) → AreApart ss → next_above (all_in ss) last ≡ Some u → set (heads_of ss last) (bucket_of u) (next_above (shard ss (bucket_of u)) (Some u)) ≡ heads_of ss (Some u)
heads_more ss last u apart next = map_but_one (λ s. next_above s last) (λ s. next_above s (Some u)) no_uses (bucket_of u) ss (λ i other. head_stays ss last u i apart next other)

-- the store
pub total_is : (ss : List Uses) (total first : ℕ) (s : Uses) → IsSharded ss total first → all_in ss ≡ s → total ≡ count s
total_is ss total first s is view = is.counted ∙ sym (count_all ss is.apart) ∙ ap count view

held_in : (ss : List Uses) (s : Uses) (u : Use) → AreApart ss → all_in ss ≡ s → holds s u ≡ holds (shard ss (bucket_of u)) u
held_in ss s u apart view = ap (λ t. holds t u) (sym view) ∙ holds_all ss apart u

-- at a moment before each expiry nothing is dropped
pub all_left : (ss : List Uses) (total first moment : ℕ) (s : Uses) → IsSharded ss total first → all_in ss ≡ s → moment < first → s ≡ live s moment
all_left ss total first moment s is view early = same_uses s (live s moment) (λ q.
    elim (holds s q) as (λ b. holds s q ≡ b → b ≡ (nat_lt moment q.exp && b)) [
      | true ↦ λ h. let low = is.lasting (bucket_of q) q (sym (held_in ss s q is.apart view) ∙ h) in grind (arith, nat_tests)
      | false ↦ λ h. elim (nat_lt moment q.exp) as (λ b. false ≡ (b && false)) [ true ↦ refl | false ↦ refl ]
    ] refl ∙ sym (holds-live s moment q))

pub swept_is : (ss now : List Uses) (total first moment later dropped : ℕ) → IsSharded ss total first → now ≡ map (λ s. live s moment) ss → dropped + total_of now ≡ total_of ss → later ≤ moment + 1 → IsSharded now (total - dropped) later
swept_is ss now total first moment later dropped is swept went soon = record {
  long = ap length swept ∙ length-map ss (λ s. live s moment) ∙ is.long;
  apart = subst AreApart (sym swept) (live_apart ss moment is.apart);
  counted = omega (arith, is.counted, went);
  lasting = subst (ExpireFrom later) (sym swept) (λ i u has. let left : nat_lt moment u.exp ≡ true = (live_held ss moment i u has).0 in grind (arith, nat_tests));
}

pub swept_view : (ss now : List Uses) (total first moment : ℕ) (s : Uses) → IsSharded ss total first → all_in ss ≡ s → now ≡ map (λ t. live t moment) ss → all_in now ≡ live s moment
swept_view ss now total first moment s is view swept = ap all_in swept ∙ live_whole ss moment is.apart ∙ ap (λ t. live t moment) view

pub swept_count : (ss now : List Uses) (total first moment dropped : ℕ) (s : Uses) → IsSharded ss total first → all_in ss ≡ s → now ≡ map (λ t. live t moment) ss → dropped + total_of now ≡ total_of ss → dropped + count (all_in now) ≡ count s
swept_count ss now total first moment dropped s is view swept went =
    let left : count (all_in now) ≡ total_of now = count_all now (subst AreApart (sym swept) (live_apart ss moment is.apart)) in
    omega (arith, left, went, is.counted, total_is ss total first s is view)

-- a use that is put in
pub put_is : (ss now : List Uses) (total first later more : ℕ) (new : Use) → IsSharded ss total first → IsPut ss new now → bucket_of new < 256 → total_of ss + more ≡ total_of now → later ≡ min first new.exp → IsSharded now (total + more) later
put_is ss now total first later more new is put low came least =
    let within : bucket_of new < length ss = omega (arith, is.long) in
    record {
      long = ap length put ∙ length-set ss (bucket_of new) (with (shard ss (bucket_of new)) new) ∙ is.long;
      apart = put_apart ss new now is.apart put within;
      counted = omega (arith, is.counted, came);
      lasting = put_lasts ss new now first later is.lasting put within (omega (arith, least)) (omega (arith, least));
    }

pub put_view : (ss now : List Uses) (total first : ℕ) (new : Use) (s : Uses) → IsSharded ss total first → all_in ss ≡ s → IsPut ss new now → bucket_of new < 256 → all_in now ≡ with s new
put_view ss now total first new s is view put low = put_whole ss new now is.apart put (omega (arith, is.long)) ∙ ap (λ t. with t new) view

-- a use that is there
pub held_stays : (ss : List Uses) (total first : ℕ) (new : Use) (s : Uses) → IsSharded ss total first → all_in ss ≡ s → holds (shard ss (bucket_of new)) new ≡ true → s ≡ with s new
held_stays ss total first new s is view has = with-held s new (held_in ss s new is.apart view ∙ has)

pub shard_held : (ss : List Uses) (total first : ℕ) (new : Use) (s : Uses) → IsSharded ss total first → all_in ss ≡ s → holds s new ≡ true → holds (shard ss (bucket_of new)) new ≡ true
shard_held ss total first new s is view has = sym (held_in ss s new is.apart view) ∙ has

-- a look-up by key
pub found_is : (p : Use → Bool) (ss : List Uses) (total first k : ℕ) (s here : Uses) (found : Bool) → IsSharded ss total first → all_in ss ≡ s → here ≡ shard ss k → found ≡ list_any p (rising here) → ((u : Use) → p u ≡ true → bucket_of u ≡ k) → found ≡ list_any p (rising s)
found_is p ss total first k s here found is view at f only = f ∙ ap (λ t. list_any p (rising t)) at ∙ sym (any_found p k ss is.apart only) ∙ ap (λ t. list_any p (rising t)) view

-- a shard that is put back
pub put_counts : (s : Uses) (new : Use) → (count (with s new) - count s ≤ 1) × (count s ≤ count (with s new))
put_counts s new = elim (holds s new) as (λ b. count (with s new) ≡ cond b (count s) (count s + 1) → (count (with s new) - count s ≤ 1) × (count s ≤ count (with s new))) [
  | true ↦ λ e. (omega (arith, e), omega (arith, e))
  | false ↦ λ e. (omega (arith, e), omega (arith, e))
] (count-with s new)

-- stores in a vector, which contracts see as their sets
pub store_at : {S : Type 0} (f : S → Uses) (stores : List S) (i : ℕ) (x : S) → i < length stores → x ≡ get_or stores i x → f x ≡ shard (map f stores) i
store_at f stores i x within at = ap f at ∙ sym (mapped_at f stores i x no_uses within)

pub store_put : {S : Type 0} (f : S → Uses) (stores : List S) (i : ℕ) (x y : S) (new : Use) → i < length stores → i ≡ bucket_of new → x ≡ get_or stores i x → f y ≡ with (f x) new → IsPut (map f stores) new (map f (set stores i y))
store_put f stores i x y new within index at is =
    map-set f stores i y ∙ ap (set (map f stores) i) (is ∙ ap (λ s. with s new) (store_at f stores i x within at)) ∙ ap (λ k. set (map f stores) k (with (shard (map f stores) k) new)) index

pub store_same : {S : Type 0} (f : S → Uses) (stores : List S) (i : ℕ) (x y : S) → x ≡ get_or stores i x → f y ≡ f x → map f (set stores i y) ≡ map f stores
store_same f stores i x y at same = map-set_same f stores i y x (same ∙ ap f at)

pub put_total : (ss now : List Uses) (new : Use) (before after : ℕ) → IsPut ss new now → bucket_of new < length ss → before ≡ count (shard ss (bucket_of new)) → after ≡ count (with (shard ss (bucket_of new)) new) → (after - before ≤ 1) × (total_of ss + (after - before) ≡ total_of now)
put_total ss now new before after put within was is =
    let k = bucket_of new in
    let here = shard ss k in
    let one = put_counts here new in
    let sums = sum_by-set count ss k (with here new) no_uses within in
    (omega (arith, was, is, one.0), omega (arith, was, is, one.1, sums, ap total_of put))

-- one more store is swept
pub record IsSwept (moment : ℕ) (was now : List Uses) (i went : ℕ) : Type 0 where
  pub swept : now ≡ map (λ s. live s moment) (take i was) ++ drop i was
  pub counted : went + total_of now ≡ total_of was

pub swept_more : {S : Type 0} (f : S → Uses) (stores : List S) (was : List Uses) (moment i dropped went : ℕ) (x y : S) → IsSwept moment was (map f stores) i dropped → i < length was → x ≡ get_or stores i x → f y ≡ live (f x) moment → went + count (f y) ≡ count (f x) → IsSwept moment was (map f (set stores i y)) (i + 1) (dropped + went)
swept_more f stores was moment i dropped went x y so_far low at kept counted =
    let long : length (map f stores) ≡ length was = ap length so_far.swept ∙ length-append (map (λ s. live s moment) (take i was)) (drop i was) ∙ omega (arith, length-map (take i was) (λ s. live s moment), length-take i was, length-drop i was, low) in
    let within : i < length (map f stores) = omega (arith, long, low) in
    let here : f x ≡ shard (map f stores) i = store_at f stores i x (omega (arith, within, length-map stores f)) at in
    let sums = sum_by-set count (map f stores) i (f y) no_uses within in
    record {
      swept = map-set f stores i y ∙ ap (set (map f stores) i) kept ∙ map_over_more (λ s. live s moment) was (map f stores) i (f x) low so_far.swept (here ∙ past (map f stores) i (f x) within);
      counted = omega (arith, sums, so_far.counted, counted, ap count here, ap total_of (map-set f stores i y));
    }
  where
    past : (xs : List Uses) (i : ℕ) (d : Uses) → i < length xs → get_or xs i no_uses ≡ get_or xs i d
    past [] i d within = absurd (omega arith)
    past (x ∷ xs) zero d within = refl
    past (x ∷ xs) (suc i) d within = past xs i d (omega arith)

-- a head of those that were looked up
pub second_at : (next : List (Option Use)) (heads : List (Option ℕ)) (i : ℕ) → heads ≡ map exp_if_any next → get_or heads i None ≡ exp_if_any (get_or next i None)
second_at next heads i are = ap (λ hs. get_or hs i None) are ∙ get_or-map exp_if_any next i None

pub first_least : (next : List (Option Use)) → get_or next 0 None ≡ least_in None (take 1 next)
first_least [] = refl
first_least (h ∷ hs) = refl

-- what holds of each number below one, and of that one
pub below_more : (P : ℕ → Type 0) (i : ℕ) → ((j : ℕ) → j < i → P j) → P i → (j : ℕ) → j < i + 1 → P j
below_more P i each here j low = elim (nat_eq j i) as (λ b. nat_eq j i ≡ b → P j) [
  | true ↦ λ e. subst P (sym (eqb-true j i e)) here
  | false ↦ λ e. let other = eqb-false j i e in each j (omega (arith, low, other))
] refl

-- one more head is looked up
pub head_at : {S : Type 0} (f : S → Uses) (stores : List S) (i : ℕ) (x : S) (after head : Option Use) → i < length stores → x ≡ get_or stores i x → head ≡ next_above (f x) after → head ≡ get_or (heads_of (map f stores) after) i None
head_at f stores i x after head within at is =
    is ∙ ap (λ s. next_above s after) (store_at f stores i x within at) ∙ sym (mapped_at (λ s. next_above s after) (map f stores) i no_uses None (omega (arith, within, length-map stores f)))

pub filled_more : (heads all : List (Option ℕ)) (i : ℕ) (head : Option ℕ) → i < length heads → i < length all → take i heads ≡ take i all → head ≡ get_or all i None → take (i + 1) (set heads i head) ≡ take (i + 1) all
filled_more heads all i head within low filled is =
    take_more_set heads i head within ∙ (λ j. filled j ++ is j ∷ []) ∙ sym (take_more all i None low)

-- the least so far, and one more head
least_push : (least head : Option Use) (heads : List (Option Use)) → least_in least (heads ++ head ∷ []) ≡ least_of (least_in least heads) head
least_push least head [] = refl
least_push least head (h ∷ hs) = least_push (least_of least h) head hs

-- of two uses of shards in this order the second is less only if it expires first
less_by_key : (x y : ℕ) (xs ys : List ℕ) → x < y → slice_cmp nat_cmp (y ∷ ys) (x ∷ xs) ≡ Greater
less_by_key x y xs ys low = ap (λ o. ordering_then o (slice_cmp nat_cmp ys xs)) (greater_number x y low)
  where
    greater_number : (x y : ℕ) → x < y → nat_cmp y x ≡ Greater
    greater_number x y low = by_ranked (y < x) (y ≡ x) (x < y) (nat_cmp y x) (ranked y x (nat_cmp y x) refl) (λ e h. absurd (omega (arith, h, low))) (λ e h. absurd (omega (arith, h, low))) (λ e h. e)

keys_apart : (k l : List ℕ) → slice_index k 0 < slice_index l 0 → slice_cmp nat_cmp l k ≡ Greater
keys_apart k [] low = absurd (omega (arith, low))
keys_apart [] (y ∷ ys) low = refl
keys_apart (x ∷ xs) (y ∷ ys) low = less_by_key x y xs ys low

less_is_earlier : (u v : Use) → bucket_of u < bucket_of v → is_lt (use_cmp v u) ≡ nat_lt v.exp u.exp
less_is_earlier u v low =
    let rest = λ (o : Ordering). ordering_then o (ordering_then (slice_cmp nat_cmp v.validator_id u.validator_id) (ordering_then (nat_cmp v.at u.at) (bool_cmp v.withdrawn u.withdrawn))) in
    let all = λ (o : Ordering). is_lt (ordering_then o (rest (slice_cmp nat_cmp v.key u.key))) in
    by_ranked (v.exp < u.exp) (v.exp ≡ u.exp) (u.exp < v.exp) (nat_cmp v.exp u.exp) (ranked v.exp u.exp (nat_cmp v.exp u.exp) refl)
    (λ e h. let is : nat_lt v.exp u.exp ≡ true = grind (arith, nat_tests) in ap all e ∙ sym is)
    (λ e h. let is : nat_lt v.exp u.exp ≡ false = grind (arith, nat_tests) in ap all e ∙ ap (λ o. is_lt (rest o)) (keys_apart u.key v.key low) ∙ sym is)
    (λ e h. let is : nat_lt v.exp u.exp ≡ false = grind (arith, nat_tests) in ap all e ∙ sym is)

least_by_expiry : (one other : Option Use) → ((u v : Use) → other ≡ Some u → one ≡ Some v → bucket_of u < bucket_of v) → least_of other one ≡ cond (is_before (exp_if_any one) (exp_if_any other)) one other
least_by_expiry None None apart = refl
least_by_expiry None (Some u) apart = refl
least_by_expiry (Some v) None apart = refl
least_by_expiry (Some v) (Some u) apart = ap (λ b. cond b (Some v) (Some u)) (less_is_earlier u v (apart u v refl refl))

pub least_more : (heads : List (Option Use)) (i at : ℕ) (before : Bool) → AreHeads heads → i < 256 → at < i → get_or heads at None ≡ least_in None (take i heads) → before ≡ is_before (exp_if_any (get_or heads i None)) (exp_if_any (get_or heads at None)) → cond before (get_or heads i None) (get_or heads at None) ≡ least_in None (take (i + 1) heads)
least_more heads i at before are within low least is =
    let one = get_or heads i None in
    let other = get_or heads at None in
    ap (λ b. cond b one other) is ∙ sym (least_by_expiry one other (λ u v e f. omega (arith, low, are.each at u e, are.each i v f)))
    ∙ ap (λ h. least_of h one) least ∙ sym (ap (least_in None) (take_more heads i None (omega (arith, within, are.long))) ∙ least_push None one (take i heads))

-- a head that is there is the next use of its shard
head_is : (ss : List Uses) (after : Option Use) (i : ℕ) (u : Use) → get_or (heads_of ss after) i None ≡ Some u → get_or (heads_of ss after) i None ≡ next_above (shard ss i) after
head_is [] after i u e = let none : None ≡ Some u = e in cc
head_is (s ∷ ss) after zero u e = refl
head_is (s ∷ ss) after (suc i) u e = head_is ss after i u e

pub heads_are : (ss : List Uses) (after : Option Use) → AreApart ss → length ss ≡ 256 → AreHeads (heads_of ss after)
heads_are ss after apart long = record {
  long = length-map ss (λ s. next_above s after) ∙ long;
  each = λ i u e. apart i u (found_held (shard ss i) (is_after after) u (sym (head_is ss after i u e) ∙ e));
}

-- a shard is a bucket of the whole set
pub shard_is_bucket : (ss : List Uses) → AreApart ss → (b : ℕ) → shard ss b ≡ bucket b (all_in ss)
shard_is_bucket ss apart b = same_uses (shard ss b) (bucket b (all_in ss)) (λ u.
    let whole = holds (all_in ss) u in
    elim (nat_eq (bucket_of u) b) as (λ t. nat_eq (bucket_of u) b ≡ t → holds (shard ss b) u ≡ holds (bucket b (all_in ss)) u) [
      | true ↦ λ e. ap (λ k. holds (shard ss k) u) (sym (eqb-true (bucket_of u) b e)) ∙ sym (holds_all ss apart u) ∙ sym (bucket_holds_its_uses b (all_in ss) u ∙ ap (λ t. whole && t) e ∙ and_true whole)
      | false ↦ λ e. false_from_ne_true (holds (shard ss b) u) (λ h. eqb-false (bucket_of u) b e (apart b u h)) ∙ sym (bucket_holds_its_uses b (all_in ss) u ∙ ap (λ t. whole && t) e ∙ and_false whole)
    ] refl)
  where
    and_true : (b : Bool) → (b && true) ≡ b
    and_true true = refl
    and_true false = refl

    and_false : (b : Bool) → (b && false) ≡ false
    and_false true = refl
    and_false false = refl

-- a value for each shard, and for each number of a shard
each_shard : {X : Type 0} (f : Uses → X) (g : ℕ → X) (n : ℕ) (ss : List Uses) → ((i : ℕ) → f (shard ss i) ≡ g (n + i)) → map f ss ≡ map g (range_with_len n (length ss))
each_shard f g n [] same = refl
each_shard f g n (s ∷ ss) same =
    let here : n + 0 ≡ n = omega arith in
    (λ j. (same 0 ∙ ap g here) j ∷ each_shard f g (n + 1) ss (λ i. let there : n + suc i ≡ n + 1 + i = omega arith in same (suc i) ∙ ap g there) j)

map_twice : {X Y Z : Type 0} (f : Y → Z) (g : X → Y) (xs : List X) → map f (map g xs) ≡ map (λ x. f (g x)) xs
map_twice f g [] = refl
map_twice f g (x ∷ xs) = ap (λ ys. f (g x) ∷ ys) (map_twice f g xs)

pub heads_all : (ss : List Uses) (after : Option Use) → AreApart ss → length ss ≡ 256 → map exp_if_any (heads_of ss after) ≡ heads_in (all_in ss) after
unfolding heads_in
heads_all ss after apart long =
    let next = λ (s : Uses). exp_if_any (next_above s after) in
    let of = λ (b : ℕ). next (bucket b (all_in ss)) in
    map_twice exp_if_any (λ s. next_above s after) ss ∙ each_shard next of 0 ss (λ i. let here : i ≡ 0 + i = omega arith in ap next (shard_is_bucket ss apart i) ∙ ap of here) ∙ ap (λ n. map of (range_with_len 0 n)) long

-- heads that are known
pub known_heads : (ss : List Uses) (ahead : Ahead) → AreApart ss → length ss ≡ 256 → IsAhead (all_in ss) ahead → ahead.known ≡ true → ahead.heads ≡ map exp_if_any (heads_of ss ahead.after)
known_heads ss ahead apart long is known = is known ∙ sym (heads_all ss ahead.after apart long)

-- the least after a use: the first that expires at the same second, from the shard of that use on
heads_stay : (u : Use) (heads : List (Option Use)) → ((i : ℕ) (v : Use) → get_or heads i None ≡ Some v → is_lt (use_cmp v u) ≡ false) → least_in (Some u) heads ≡ Some u
heads_stay u [] later = refl
heads_stay u (None ∷ heads) later = heads_stay u heads (λ i v e. later (suc i) v e)
heads_stay u (Some v ∷ heads) later = ap (λ b. least_in (cond b (Some v) (Some u)) heads) (later 0 v refl) ∙ heads_stay u heads (λ i w e. later (suc i) w e)

-- each head before the least is greater
heads_fall : (u : Use) (least : Option Use) (heads : List (Option Use)) (i : ℕ) → least_of least (Some u) ≡ Some u → get_or heads i None ≡ Some u → ((j : ℕ) (v : Use) → j < i → get_or heads j None ≡ Some v → is_lt (use_cmp u v) ≡ true) → ((j : ℕ) (v : Use) → get_or heads j None ≡ Some v → is_lt (use_cmp v u) ≡ false) → least_in least heads ≡ Some u
heads_fall u least [] i beaten at greater later = let none : None ≡ Some u = at in cc
heads_fall u least (h ∷ heads) zero beaten at greater later = ap (λ k. least_in k heads) (ap (least_of least) at ∙ beaten) ∙ heads_stay u heads (λ j v e. later (suc j) v e)
heads_fall u least (h ∷ heads) (suc i) beaten at greater later =
    heads_fall u (least_of least h) heads i (both_beaten least h beaten (λ v e. greater 0 v (omega arith) e)) at (λ j v low e. greater (suc j) v (omega (arith, low)) e) (λ j v e. later (suc j) v e)
  where
    both_beaten : (a b : Option Use) → least_of a (Some u) ≡ Some u → ((v : Use) → b ≡ Some v → is_lt (use_cmp u v) ≡ true) → least_of (least_of a b) (Some u) ≡ Some u
    both_beaten None None beaten greater = refl
    both_beaten None (Some v) beaten greater = ap (λ b. cond b (Some u) (Some v)) (greater v refl)
    both_beaten (Some w) None beaten greater = beaten
    both_beaten (Some w) (Some v) beaten greater = elim (is_lt (use_cmp v w)) as (λ b. least_of (cond b (Some v) (Some w)) (Some u) ≡ Some u) [
      | true ↦ ap (λ b. cond b (Some u) (Some v)) (greater v refl)
      | false ↦ beaten
    ]

-- of two uses the one that expires later is greater
later_is_greater : (u v : Use) → u.exp < v.exp → is_lt (use_cmp u v) ≡ true
later_is_greater u v low = by_ranked (u.exp < v.exp) (u.exp ≡ v.exp) (v.exp < u.exp) (nat_cmp u.exp v.exp) (ranked u.exp v.exp (nat_cmp u.exp v.exp) refl)
    (λ e h. ap (λ o. is_lt (ordering_then o (ordering_then (slice_cmp nat_cmp u.key v.key) (ordering_then (slice_cmp nat_cmp u.validator_id v.validator_id) (ordering_then (nat_cmp u.at v.at) (bool_cmp u.withdrawn v.withdrawn)))))) e)
    (λ e h. absurd (omega (arith, h, low)))
    (λ e h. absurd (omega (arith, h, low)))

not_turned : (u v : Use) → is_lt (use_cmp u v) ≡ true → is_lt (use_cmp v u) ≡ false
not_turned u v less = ap is_lt (use_total.antisymm v u) ∙ turned (use_cmp u v) less
  where
    turned : (o : Ordering) → is_lt o ≡ true → is_lt (ordering_reverse o) ≡ false
    turned Less e = refl
    turned Equal e = absurd (false≢true e)
    turned Greater e = absurd (false≢true e)

not_itself : (u : Use) → is_lt (use_cmp u u) ≡ false
not_itself u = false_from_ne_true (is_lt (use_cmp u u)) (λ e. false≢true (sym (not_turned u u e) ∙ e))

greater_no_earlier : (u v : Use) → is_lt (use_cmp u v) ≡ true → u.exp ≤ v.exp
greater_no_earlier u v less = by_ranked (u.exp < v.exp) (u.exp ≡ v.exp) (v.exp < u.exp) (nat_cmp u.exp v.exp) (ranked u.exp v.exp (nat_cmp u.exp v.exp) refl)
    (λ e h. omega (arith, h))
    (λ e h. omega (arith, h))
    (λ e h. absurd (false≢true (sym (not_turned v u (later_is_greater v u h)) ∙ less)))

-- no head of a shard before that of the use expires at its second
pub none_in_front : (heads : List (Option Use)) (last : Use) → AreHeads heads → AreBehind (Some last) heads → (j : ℕ) → j < bucket_of last → is_second last.exp (exp_if_any (get_or heads j None)) ≡ false
none_in_front heads last are behind j low = at (get_or heads j None) refl
  where
    at : (h : Option Use) → get_or heads j None ≡ h → is_second last.exp (exp_if_any h) ≡ false
    at None e = refl
    at (Some v) e = false_from_ne_true (nat_eq v.exp last.exp) (λ same.
        let later : nat_lt last.exp v.exp ≡ false = grind (arith, nat_tests) in
        false≢true (sym later ∙ (sym (less_is_earlier v last (omega (arith, low, are.each j v e))) ∙ behind j v e)))

-- the first that expires at the second of the use is the least
pub least_found : (heads : List (Option Use)) (last : Use) (i : ℕ) → AreHeads heads → AreBehind (Some last) heads → ((j : ℕ) → j < i → is_second last.exp (exp_if_any (get_or heads j None)) ≡ false) → is_second last.exp (exp_if_any (get_or heads i None)) ≡ true → get_or heads i None ≡ least_in None heads
least_found heads last i are behind none here = at (get_or heads i None) refl here
  where
    at : (h : Option Use) → get_or heads i None ≡ h → is_second last.exp (exp_if_any h) ≡ true → get_or heads i None ≡ least_in None heads
    at None e here = absurd (false≢true here)
    at (Some u) e here =
        let same : u.exp ≡ last.exp = eqb-true u.exp last.exp here in
        let early = λ (j : ℕ) (v : Use) (is : get_or heads j None ≡ Some v). greater_no_earlier last v (behind j v is) in
        let greater = λ (j : ℕ) (v : Use) (low : j < i) (is : get_or heads j None ≡ Some v).
        let other = eqb-false v.exp last.exp (ap (λ h. is_second last.exp (exp_if_any h)) (sym is) ∙ none j low) in
        later_is_greater u v (omega (arith, same, early j v is, other)) in
        e ∙ sym (heads_fall u None heads i refl e greater (λ j v is.
        by_ranked (j < i) (j ≡ i) (i < j) (nat_cmp j i) (ranked j i (nat_cmp j i) refl)
        (λ o low. not_turned u v (greater j v low is))
        (λ o eq. let alike : Some v ≡ Some u = sym is ∙ ap (λ n. get_or heads n None) eq ∙ e in let it : v ≡ u = cc in ap (λ w. is_lt (use_cmp w u)) it ∙ not_itself u)
        (λ o above.
        let low : bucket_of u < bucket_of v = omega (arith, are.each i u e, are.each j v is, above) in
        let earlier : nat_lt v.exp u.exp ≡ false = grind (arith, nat_tests, same, early j v is) in
        less_is_earlier u v low ∙ earlier)))

-- the next use after a use is greater
found_passes : (p : Use → Bool) (us : List Use) (u : Use) → find p us ≡ Some u → p u ≡ true
found_passes p [] u e = let none : None ≡ Some u = e in cc
found_passes p (v ∷ us) u e = elim (p v) as (λ b. p v ≡ b → cond b (Some v) (find p us) ≡ Some u → p u ≡ true) [
  | true ↦ λ is e. let it : v ≡ u = cc in ap p (sym it) ∙ is
  | false ↦ λ is e. found_passes p us u e
] refl e

pub heads_behind : (ss : List Uses) (after : Option Use) → AreBehind after (heads_of ss after)
heads_behind ss after = λ i u e. found_passes (is_after after) (rising (shard ss i)) u (sym (head_is ss after i u e) ∙ e)

-- a search for a use, one step on
pub not_here : (sought u : Use) (us : List Use) (after : Option Use) → IsRising us → find (is_after after) us ≡ Some u → eq_by_cmp use_cmp sought u ≡ false → list_any (eq_by_cmp use_cmp sought) (filter (is_after (Some u)) us) ≡ list_any (eq_by_cmp use_cmp sought) (filter (is_after after) us)
not_here sought u us after up next differs =
    let tie = eq_by_cmp use_cmp sought in
    sym (ap (list_any tie) (next_is after us u up next) ∙ ap (λ b. b || list_any tie (filter (is_after (Some u)) us)) differs)

pub is_here : (sought u : Use) (us : List Use) (after : Option Use) → IsRising us → find (is_after after) us ≡ Some u → eq_by_cmp use_cmp sought u ≡ true → list_any (eq_by_cmp use_cmp sought) (filter (is_after after) us) ≡ true
is_here sought u us after up next ties =
    let tie = eq_by_cmp use_cmp sought in
    ap (list_any tie) (next_is after us u up next) ∙ ap (λ b. b || list_any tie (filter (is_after (Some u)) us)) ties

-- keys
pub same_bucket : (key : List ℕ) (u : Use) → has_key key u ≡ true → bucket_of u ≡ slice_index key 0
same_bucket key u e = ap (λ k. slice_index k 0) (same_key key u.key e)

pub withdrawn_bucket : (key : List ℕ) (u : Use) → withdraws key u ≡ true → bucket_of u ≡ slice_index key 0
withdrawn_bucket key u e = same_bucket key u (both (has_key key u) u.withdrawn e).0

-- the store of no uses
none_all : (n : ℕ) → all_in (replicate n no_uses) ≡ no_uses
unfolding all_in
none_all n = ap uses_in (nothing n)
  where
    nothing : (n : ℕ) → flat_map rising (replicate n no_uses) ≡ []
    nothing zero = refl
    nothing (suc n) = (λ i. rising_none i ++ nothing n i)

pub none_view : (ss : List Uses) → ss ≡ replicate 256 no_uses → all_in ss ≡ no_uses
none_view ss e = ap all_in e ∙ none_all 256

pub none_is : (ss : List Uses) → ss ≡ replicate 256 no_uses → IsSharded ss 0 (2 ^ 64 - 1)
none_is ss e = record {
  long = ap length e ∙ length-replicate 256 no_uses;
  apart = λ i u h. absurd (false≢true (sym (empty i u) ∙ h));
  counted = sym (ap total_of e ∙ sum_by-replicate count 256 no_uses ∙ omega (arith, ap length rising_none));
  lasting = λ i u h. absurd (false≢true (sym (empty i u) ∙ h));
}
  where
    at : (n i : ℕ) → get_or (replicate n no_uses) i no_uses ≡ no_uses
    at zero i = refl
    at (suc n) zero = refl
    at (suc n) (suc i) = at n i

    empty : (i : ℕ) (u : Use) → holds (shard ss i) u ≡ false
    empty i u = ap (λ ts. holds (shard ts i) u) e ∙ ap (λ s. holds s u) (at 256 i) ∙ no_uses_hold_none u

-- a room that a walk over all shards fills
pub full_room : (room now rest whole : List Use) → room ++ rest ≡ whole → length room ≤ 64 → false ≡ nat_lt (length room) 64 → (64 ≤ length room → now ≡ room) → now ≡ take 64 whole
full_room room now rest whole parts few full same =
    let long : length room ≡ 64 = grind (arith, nat_tests) in
    same (omega (arith, long)) ∙ room_full 64 room rest whole parts long

pub room_pushed : (ss : List Uses) (last begin : Option Use) (room next : List Use) (u : Use) → next_above (all_in ss) last ≡ Some u → length room ≤ 64 → room ++ filter (is_after last) (rising (all_in ss)) ≡ filter (is_after begin) (rising (all_in ss)) → true ≡ nat_lt (length room) 64 → (length room < 64 → next ≡ room ++ u ∷ []) → HasMore (rising (all_in ss)) (Some u) begin next
room_pushed ss last begin room next u is few parts free pushed = room_more (rising (all_in ss)) last begin room next u (rising_rises use_cmp (all_in ss)) is few parts (grind (arith, nat_tests)) pushed

pub same_stores : (ss : List Uses) → map (λ s. s) ss ≡ ss
same_stores [] = refl
same_stores (s ∷ ss) = ap (λ ts. s ∷ ts) (same_stores ss)

-- the last of some uses, with one more after them
last_pushed : (before : Option Use) (us : List Use) (u : Use) → last_of before (us ++ u ∷ []) ≡ Some u
last_pushed before [] u = refl
last_pushed before (v ∷ us) u = last_pushed (Some v) us u

-- a use that was pushed into a room that is not full is its last
pub last_in : (before : Option Use) (room next : List Use) (u : Use) → true ≡ nat_lt (length room) 64 → (length room < 64 → next ≡ room ++ u ∷ []) → Some u ≡ last_of before next
last_in before room next u free pushed = sym (ap (last_of before) (pushed (grind (arith, nat_tests, free))) ∙ last_pushed before room u)
