use Rattle.std.proofs.Common.{◌≡◌, ℕ, ◌<◌, ◌≤◌, ◌+◌, ◌-◌, zero, suc, Bool, true, false, cond, not, ◌||◌, ◌&&◌, List, [], ◌∷◌, ◌++◌, length, take, drop, get_or, refl, sym, ◌∙◌, ap, subst, T, arith, nat_lt, Option, Some, None, ◌↔◌, IsTrue, nat_eq, Contains}
use Rattle.std.proofs.lemmas.Bool.Decides.{nat_tests}
use Rattle.std.proofs.lemmas.Cmp.{tied_itself, ranked, by_ranked}
use Rattle.std.proofs.lemmas.List.Sorted.{searchable_from_sorted}
use Rattle.std.proofs.lemmas.List.{get_or_default, take-append-drop, length-drop, nil_from_length}
use Rattle.std.proofs.lemmas.List.Elements.{recursion_from_All, filter_agree, Contains-get_or, All-contains_itself}
use Rattle.std.proofs.lemmas.List.Kept.{IsStrictlySortedBy-filter}
use Rattle.std.proofs.lemmas.List.Sums.{prefix_len_is, prefix_len-le-length}
use Rattle.std.proofs.lemmas.List.Folds.{list_any-append}
use Rattle.std.proofs.lemmas.Map.Keys.{Less-from_sorted}
use Rattle.std.proofs.lemmas.Bool.{false≢true, eqb-true, eq-eqb}
use Rattle.std.specs.Cmp.Lexicographic.{slice_cmp}
use Rattle.std.specs.List.{AllByRecursion, list_any, filter, insert, prefix_len, find, slice_get}
use Rattle.std.specs.List.Sorted.{IsStrictlySortedBy, IsSorted, IsPartitionedBy, IsPartitionPoint, IsNonDecreasingBy}
use Rattle.std.specs.Ordering.{eq_by_cmp, is_lt, is_eq, nat_cmp, bool_cmp, ordering_then, ordering_reverse, ordering_index}
use Rattle.std.specs.declared.cmp.Ordering.{Ordering}
use Rattle.std.specs.declared.cmp.Ordering.TheVariants.{Less, Equal, Greater}
use Rattle.svid_replay.specs.declared.token_use.Use.{Use}
use Rattle.svid_replay.specs.Batches.{is_after}
use Rattle.svid_replay.specs.Sets.{holds, rising, with, keep, union}
use Rattle.svid_replay.specs.Use.{use_cmp, IsRising}
use Rattle.svid_replay.specs.Uses.{Uses, no_uses, uses_in, live, count, NoUsesHoldNone, WithHoldsOneMore, UnionHoldsEither, LiveHoldsUnexpired, RisingHasHeld, SameHeldSameSet}
use Rattle.svid_replay.proofs.ListLemmas.{any_in, found, all_same, each_true, drop-parted, each_append, each_take, each_drop, each_before, each_behind, each_weaker, any_none, parted_by}
use Rattle.svid_replay.proofs.SetsLemmas.{same_set, same_rising, rising_rises, holds-rising, holds-with, holds-keep, holds-set_of, holds-empty}
use Rattle.svid_replay.proofs.SetsLemmas.{holds-union as of_union}
use Rattle.svid_replay.proofs.TestsLemmas.{equal, is_less, same_some, or-comm, and-comm}
use Rattle.svid_replay.proofs.UseLemmas.{use_total, use_exact}

-- the definitions on sets, each by the uses that it holds
pub holds-uses_in : (us : List Use) (u : Use) → holds (uses_in us) u ≡ list_any (eq_by_cmp use_cmp u) us
holds-uses_in us u = holds-set_of use_total use_exact us u

pub holds-live : (s : Uses) (moment : ℕ) (u : Use) → holds (live s moment) u ≡ (nat_lt moment u.exp && holds s u)
holds-live s moment u = holds-keep use_total use_exact (λ v. nat_lt moment v.exp) s u

pub holds-union : (s t : Uses) (u : Use) → holds (union s t) u ≡ (holds t u || holds s u)
holds-union s t u = of_union use_total use_exact s t u

pub same_uses : (s t : Uses) → ((u : Use) → holds s u ≡ holds t u) → s ≡ t
same_uses s t is = same_set use_total use_exact s t is

pub rising-uses_in : (us : List Use) → IsRising us → rising (uses_in us) ≡ us
rising-uses_in us up = same_rising use_total use_exact (rising (uses_in us)) us (rising_rises use_cmp (uses_in us)) up (λ u. sym (holds-rising use_cmp (uses_in us) u) ∙ holds-uses_in us u)

pub uses_in-rising : (s : Uses) → uses_in (rising s) ≡ s
uses_in-rising s = same_uses (uses_in (rising s)) s (λ u. holds-uses_in (rising s) u ∙ sym (holds-rising use_cmp s u))

-- the laws of the definitions on sets
pub no_uses_hold_none : NoUsesHoldNone
no_uses_hold_none u = holds-empty use_cmp u

pub with_holds_one_more : WithHoldsOneMore
with_holds_one_more s new u = holds-with use_total use_exact s new u

pub union_holds_either : UnionHoldsEither
union_holds_either s t u = holds-union s t u ∙ or-comm (holds t u) (holds s u)

pub live_holds_unexpired : LiveHoldsUnexpired
live_holds_unexpired s moment u = holds-live s moment u ∙ and-comm (nat_lt moment u.exp) (holds s u)

pub rising_has_held : RisingHasHeld
rising_has_held s u =
    let us = rising s in
    let tied = eq_by_cmp use_cmp u in (
      λ held. found (Contains us) tied (Contains us u) us (recursion_from_All (Contains us) us (All-contains_itself us)) (sym (holds-rising use_cmp s u) ∙ held) (λ v has e. subst (Contains us) (sym (use_exact u v (equal _ e))) has),
      λ has. holds-rising use_cmp s u ∙ any_in tied us u has (ap is_eq (tied_itself use_total u)),
    )

pub same_held_same_set : SameHeldSameSet
same_held_same_set s t is = same_uses s t is

-- a set whose count is 0 is the set of no uses
pub counts_none : (s : Uses) (n : ℕ) → n ≡ count s → IsTrue (nat_eq n 0) ↔ (s ≡ no_uses)
unfolding IsStrictlySortedBy
counts_none s n e = (
  λ zero. let none : n ≡ 0 = eqb-true n 0 zero in sym (uses_in-rising s) ∙ ap uses_in (nil_from_length (rising s) (sym e ∙ none)),
  λ same. eq-eqb n 0 (e ∙ ap count same ∙ ap length (rising-uses_in [] tt)),
)

-- lists of uses as sets
kept : (tie test any : Bool) → (tie ≡ true → test ≡ true) → (tie || (test && any)) ≡ (test && (tie || any))
kept true true any h = refl
kept true false any h = sym (h refl)
kept false test any h = refl

left_out : (tie test any : Bool) → (tie ≡ true → test ≡ false) → (test && any) ≡ (test && (tie || any))
left_out true true any h = elim any as (λ b. b ≡ true) [ true ↦ refl | false ↦ sym (h refl) ]
left_out true false any h = refl
left_out false test any h = refl

pub to_front : (a b c : Bool) → (a || (b || c)) ≡ (b || (a || c))
to_front true true c = refl
to_front true false c = refl
to_front false b c = refl

held_already : (tie has : Bool) → (tie ≡ true → has ≡ true) → has ≡ (tie || has)
held_already true has h = h refl
held_already false has h = refl

pub any-filter : (test : Use → Bool) (u : Use) (us : List Use) → list_any (eq_by_cmp use_cmp u) (filter test us) ≡ (test u && list_any (eq_by_cmp use_cmp u) us)
any-filter test u [] = elim (test u) as (λ b. false ≡ (b && false)) [ true ↦ refl | false ↦ refl ]
any-filter test u (v ∷ vs) =
    let tie = eq_by_cmp use_cmp u v in
    elim (test v) as (λ b. test v ≡ b → list_any (eq_by_cmp use_cmp u) (cond b (v ∷ filter test vs) (filter test vs)) ≡ (test u && (tie || list_any (eq_by_cmp use_cmp u) vs))) [
      | true ↦ λ e. ap (λ b. tie || b) (any-filter test u vs) ∙ kept tie (test u) (list_any (eq_by_cmp use_cmp u) vs) (λ t. ap test (use_exact u v (equal _ t)) ∙ e)
      | false ↦ λ e. any-filter test u vs ∙ left_out tie (test u) (list_any (eq_by_cmp use_cmp u) vs) (λ t. ap test (use_exact u v (equal _ t)) ∙ e)
    ] refl

pub uses_in-filter : (test : Use → Bool) (us : List Use) → uses_in (filter test us) ≡ keep test (uses_in us)
uses_in-filter test us = same_uses (uses_in (filter test us)) (keep test (uses_in us)) (λ u. holds-uses_in (filter test us) u ∙ any-filter test u us ∙ sym (holds-keep use_total use_exact test (uses_in us) u ∙ ap (λ b. test u && b) (holds-uses_in us u)))

-- the uses that are kept of a set, rising
pub rising-keep : (test : Use → Bool) (s : Uses) → rising (keep test s) ≡ filter test (rising s)
rising-keep test s =
    ap (λ (t : Uses). rising (keep test t)) (sym (uses_in-rising s)) ∙ ap rising (sym (uses_in-filter test (rising s)))
    ∙ rising-uses_in (filter test (rising s)) (IsStrictlySortedBy-filter use_cmp test (rising s) (rising_rises use_cmp s))

-- a use inserted after a prefix that is left off
pub drop-insert : (n i : ℕ) (us : List Use) (new : Use) → n ≤ length us → drop n (insert us (n + i) new) ≡ insert (drop n us) i new
drop-insert zero i us new within = let e : 0 + i ≡ i = omega arith in ap (λ k. insert us k new) e
drop-insert (suc n) i [] new within = absurd (omega (arith, within))
drop-insert (suc n) i (u ∷ us) new within = let e : suc n + i ≡ suc (n + i) = omega arith in ap (λ k. drop (suc n) (insert (u ∷ us) k new)) e ∙ drop-insert n i us new (omega (arith, within))

pub uses_in-insert : (us : List Use) (i : ℕ) (new : Use) → uses_in (insert us i new) ≡ with (uses_in us) new
uses_in-insert us i new = same_uses (uses_in (insert us i new)) (with (uses_in us) new) (λ u.
    let tied = eq_by_cmp use_cmp u in
    holds-uses_in (insert us i new) u ∙ list_any-append tied (take i us) (new ∷ drop i us) ∙ to_front (list_any tied (take i us)) (tied new) (list_any tied (drop i us))
    ∙ ap (λ b. tied new || b) (sym (list_any-append tied (take i us) (drop i us)) ∙ ap (list_any tied) (take-append-drop i us) ∙ sym (holds-uses_in us u))
    ∙ sym (holds-with use_total use_exact (uses_in us) new u))

pub with-held : (s : Uses) (u : Use) → holds s u ≡ true → s ≡ with s u
with-held s u has = same_uses s (with s u) (λ v. held_already (eq_by_cmp use_cmp v u) (holds s v) (λ e. ap (holds s) (use_exact v u (equal _ e)) ∙ has) ∙ sym (holds-with use_total use_exact s u v))

-- rising uses
pub rising_insert : (us : List Use) (i : ℕ) (new : Use) → IsRising us → AllByRecursion (λ u. use_cmp u new ≡ Less) (take i us) → AllByRecursion (λ u. use_cmp new u ≡ Less) (drop i us) → IsRising (insert us i new)
unfolding IsStrictlySortedBy
rising_insert us zero new up below above = (above, up)
rising_insert [] (suc i) new up below above = (tt, tt)
rising_insert (u ∷ us) (suc i) new up below above =
    (each_append (λ v. use_cmp u v ≡ Less) (take i us) (new ∷ drop i us) (each_take _ i us up.0) (below.0, each_drop _ i us up.0), rising_insert us i new up.1 below.1 above)

greater : (u v : Use) → use_cmp u v ≡ Greater → use_cmp v u ≡ Less
greater u v e = use_total.antisymm v u ∙ ap ordering_reverse e

sorted_from_rising : (us : List Use) → IsRising us → IsSorted use_cmp us
sorted_from_rising us up = λ k d low h. ap is_lt (use_total.antisymm (get_or us (k + 1) d) (get_or us k d) ∙ ap ordering_reverse (Less-from_sorted use_cmp us k (k + 1) d up (omega arith) h))

-- the index that a search for a use has found, where the use is not there
pub record IsIndex (us : List Use) (new : Use) (i : ℕ) : Type 0 where
  pub bound : i ≤ length us
  pub point : IsPartitionPoint (λ u. use_cmp u new ≡ Less) (λ u. use_cmp u new ≡ Greater) us i

pub index_from_search : (us : List Use) (new : Use) (i : ℕ) → IsRising us → i ≤ length us → (IsNonDecreasingBy (λ y. ordering_index (use_cmp y new)) us → IsPartitionPoint (λ u. use_cmp u new ≡ Less) (λ u. use_cmp u new ≡ Greater) us i) → IsIndex us new i
index_from_search us new i up bound point = record { bound = bound; point = point (searchable_from_sorted use_total (λ u. u) us new (sorted_from_rising us up)) }

-- a use that a search has found is held
pub found_is_held : (us : List Use) (new : Use) (i : ℕ) → i < length us → ((d : Use) → use_cmp (get_or us i d) new ≡ Equal) → holds (uses_in us) new ≡ true
found_is_held us new i within at =
    let tied = eq_by_cmp use_cmp new in
    holds-uses_in us new ∙ any_in tied us (get_or us i new) (Contains-get_or us i new within) (ap is_eq (use_total.antisymm new (get_or us i new) ∙ ap ordering_reverse (at new)))

pub index_rises : (us : List Use) (new : Use) (i : ℕ) → IsRising us → IsIndex us new i → IsRising (insert us i new)
index_rises us new i up is = rising_insert us i new up (each_before _ us i is.point.0) (each_weaker _ _ (λ u e. greater u new e) (drop i us) (each_behind _ us i is.point.1))

pub index_is_free : (us : List Use) (new : Use) (i : ℕ) → IsIndex us new i → holds (uses_in us) new ≡ false
index_is_free us new i is =
    let tied = eq_by_cmp use_cmp new in
    holds-uses_in us new ∙ ap (list_any tied) (sym (take-append-drop i us)) ∙ list_any-append tied (take i us) (drop i us)
    ∙ ap (λ b. b || list_any tied (drop i us)) (any_none tied (take i us) (each_weaker (λ u. use_cmp u new ≡ Less) _ (λ u e. ap is_eq (use_total.antisymm new u ∙ ap ordering_reverse e)) (take i us) (each_before _ us i is.point.0)))
    ∙ any_none tied (drop i us) (each_weaker (λ u. use_cmp u new ≡ Greater) _ (λ u e. ap is_eq (greater u new e)) (drop i us) (each_behind _ us i is.point.1))

-- tests that only a prefix of rising uses passes
pub less_exp : (u v : Use) → use_cmp u v ≡ Less → u.exp ≤ v.exp
less_exp u v less = by_ranked (u.exp < v.exp) (u.exp ≡ v.exp) (v.exp < u.exp) (nat_cmp u.exp v.exp) (ranked u.exp v.exp (nat_cmp u.exp v.exp) refl) (λ _ h. omega arith) (λ _ h. omega arith) (λ e h. absurd (subst T (ap is_lt (sym less ∙ ap (λ (r : Ordering). ordering_then r (ordering_then (slice_cmp nat_cmp u.key v.key) (ordering_then (slice_cmp nat_cmp u.validator_id v.validator_id) (ordering_then (nat_cmp u.at v.at) (bool_cmp u.withdrawn v.withdrawn))))) e)) tt))

not_before : (last u v : Use) → use_cmp u v ≡ Less → not (is_lt (use_cmp last v)) ≡ true → (r : Ordering) → use_cmp last u ≡ r → not (is_lt r) ≡ true
not_before last u v less e Less r = absurd (false≢true (ap (λ o. not (is_lt o)) (sym (use_total.trans last u v r less)) ∙ e))
not_before last u v less e Equal r = refl
not_before last u v less e Greater r = refl

pub expired_parted : (moment : ℕ) (us : List Use) → IsRising us → IsPartitionedBy (λ u. not (nat_lt moment u.exp)) us
expired_parted moment us up = parted_by use_cmp (λ u. not (nat_lt moment u.exp)) (λ u v less e. let le = less_exp u v less in grind (arith, nat_tests)) us up

pub not_after_parted : (last : Use) (us : List Use) → IsRising us → IsPartitionedBy (λ u. not (is_after (Some last) u)) us
not_after_parted last us up = parted_by use_cmp (λ u. not (is_after (Some last) u)) (λ u v less e. not_before last u v less e (use_cmp last u) refl) us up

-- an index splits the uses that are not greater from the others, if the use before it is not greater and the one at it is
pub index_is : (last : Use) (us : List Use) (i : ℕ) (d e : Use) → IsRising us → i ≤ length us → (0 < i → is_after (Some last) (get_or us (i - 1) d) ≡ false) → (i < length us → is_after (Some last) (get_or us i e) ≡ true) → i ≡ prefix_len (λ u. not (is_after (Some last) u)) us
index_is last us i d e up bound front rest =
    let p = λ (u : Use). not (is_after (Some last) u) in
    sym (prefix_len_is p us i last bound (λ k low. not_after_parted last us up k (i - 1) last (omega (arith, low)) (omega (arith, low, bound)) (ap p (get_or_default us (i - 1) last d (omega (arith, low, bound))) ∙ ap not (front (omega (arith, low))))) (λ low. ap p (get_or_default us i last e low) ∙ ap not (rest low)))

not_not : (b : Bool) → not (not b) ≡ b
not_not true = refl
not_not false = refl

-- the uses that are not greater are a prefix
pub filter_is_rest : (last : Use) (us : List Use) → IsRising us → drop (prefix_len (λ u. not (is_after (Some last) u)) us) us ≡ filter (is_after (Some last)) us
filter_is_rest last us up = drop-parted (λ u. not (is_after (Some last) u)) us (not_after_parted last us up) ∙ filter_agree _ _ (λ u. not_not (is_after (Some last) u)) us

pub drop-expired : (moment : ℕ) (us : List Use) → IsRising us → drop (prefix_len (λ u. not (nat_lt moment u.exp)) us) us ≡ filter (λ u. nat_lt moment u.exp) us
drop-expired moment us up = drop-parted (λ u. not (nat_lt moment u.exp)) us (expired_parted moment us up) ∙ filter_agree _ _ (λ u. not_not (nat_lt moment u.exp)) us

-- the list in a sorted vector, and the set that it represents
pub stored : (us : List Use) (s : Uses) → IsRising us → uses_in us ≡ s → rising s ≡ us
stored us s up e = ap rising (sym e) ∙ rising-uses_in us up

-- what is left of rising uses after the expired prefix is cut off
pub record IsPruned (us : List Use) (moment dropped : ℕ) (left : List Use) : Type 0 where
  pub front : dropped ≡ prefix_len (λ u. not (nat_lt moment u.exp)) us
  pub rest : left ≡ drop dropped us

pub left_is : (us : List Use) (moment dropped : ℕ) (left : List Use) → IsRising us → IsPruned us moment dropped left → left ≡ filter (λ u. nat_lt moment u.exp) us
left_is us moment dropped left up is = is.rest ∙ ap (λ n. drop n us) is.front ∙ drop-expired moment us up

pub left_rises : (us : List Use) (moment dropped : ℕ) (left : List Use) → IsRising us → IsPruned us moment dropped left → IsRising left
left_rises us moment dropped left up is = subst IsRising (sym (left_is us moment dropped left up is)) (IsStrictlySortedBy-filter use_cmp (λ u. nat_lt moment u.exp) us up)

pub left_live : (us : List Use) (moment dropped : ℕ) (left : List Use) (s : Uses) → IsRising us → uses_in us ≡ s → IsPruned us moment dropped left → uses_in left ≡ live s moment
left_live us moment dropped left s up e is = ap uses_in (left_is us moment dropped left up is) ∙ uses_in-filter (λ u. nat_lt moment u.exp) us ∙ ap (λ (t : Uses). live t moment) e

pub left_count : (us : List Use) (moment dropped : ℕ) (left : List Use) (s : Uses) → IsRising us → uses_in us ≡ s → IsPruned us moment dropped left → dropped + count (uses_in left) ≡ count s
left_count us moment dropped left s up e is =
    let here : count (uses_in left) ≡ length left = ap length (rising-uses_in left (left_rises us moment dropped left up is)) in
    let all : count s ≡ length us = ap length (stored us s up e) in
    let long : length left ≡ length us - dropped = ap length is.rest ∙ length-drop dropped us in
    let few : dropped ≤ length us = omega (arith, is.front, prefix_len-le-length (λ u. not (nat_lt moment u.exp)) us) in
    omega arith

-- the first of the uses that pass
pub find_kept : (p : Use → Bool) (us : List Use) → slice_get (filter p us) 0 ≡ find p us
find_kept p [] = refl
find_kept p (u ∷ us) = elim (p u) as (λ b. slice_get (cond b (u ∷ filter p us) (filter p us)) 0 ≡ cond b (Some u) (find p us)) [ true ↦ refl | false ↦ find_kept p us ]

-- a walk from each use to the next
-- the first uses are those that a walk has passed, and the rest come after the last of them
pub record IsWalked (us : List Use) (after : Option Use) (front : List Use) : Type 0 where
  pub parts : us ≡ front ++ filter (is_after after) us

pub walk_none : (us : List Use) → IsWalked us None []
walk_none us = record { parts = sym (all_same (is_after None) us (each_true (λ u. is_after None u ≡ true) (λ u. refl) us)) }

after_more : (after : Option Use) (u v : Use) → is_after after u ≡ true → use_cmp u v ≡ Less → is_after after v ≡ true
after_more None u v e less = refl
after_more (Some a) u v e less = ap is_lt (use_total.trans a u v (is_less (use_cmp a u) e) less)

first_of_found : (P : Use → Type 0) (p : Use → Bool) (us : List Use) (u : Use) → AllByRecursion P us → find p us ≡ Some u → P u
first_of_found P p [] u all e = let none : None ≡ Some u = e in cc
first_of_found P p (v ∷ vs) u all e =
    elim (p v) as (λ b. cond b (Some v) (find p vs) ≡ Some u → P u) [
      | true ↦ λ same. subst P (same_some v u same) all.0
      | false ↦ λ later. first_of_found P p vs u all.1 later
    ] e

pub next_is : (after : Option Use) (us : List Use) (u : Use) → IsRising us → find (is_after after) us ≡ Some u → filter (is_after after) us ≡ u ∷ filter (is_after (Some u)) us
unfolding IsStrictlySortedBy
next_is after [] u up e = let none : None ≡ Some u = e in cc
next_is after (v ∷ vs) u up e =
    elim (is_after after v) as (λ b. is_after after v ≡ b → cond b (Some v) (find (is_after after) vs) ≡ Some u → cond b (v ∷ filter (is_after after) vs) (filter (is_after after) vs) ≡ u ∷ filter (is_after (Some u)) (v ∷ vs)) [
      | true ↦ λ t same. subst (λ (w : Use). v ∷ filter (is_after after) vs ≡ w ∷ filter (is_after (Some w)) (v ∷ vs)) (same_some v u same) (ap (λ ws. v ∷ ws) (
          all_same (is_after after) vs (each_weaker (λ w. use_cmp v w ≡ Less) _ (λ w less. after_more after v w t less) vs up.0)
          ∙ sym (ap (λ o. cond (is_lt o) (v ∷ filter (is_after (Some v)) vs) (filter (is_after (Some v)) vs)) (tied_itself use_total v) ∙ all_same (is_after (Some v)) vs (each_weaker (λ w. use_cmp v w ≡ Less) _ (λ w less. ap is_lt less) vs up.0))))
      | false ↦ λ t later.
          let before : use_cmp v u ≡ Less = first_of_found (λ w. use_cmp v w ≡ Less) (is_after after) vs u up.0 later in
          next_is after vs u up.1 later ∙ sym (ap (λ o. u ∷ cond (is_lt o) (v ∷ filter (is_after (Some u)) vs) (filter (is_after (Some u)) vs)) (use_total.antisymm u v ∙ ap ordering_reverse before))
    ] refl e

pub walk_falls : (us : List Use) (after : Option Use) (u : Use) → IsRising us → find (is_after after) us ≡ Some u → length (filter (is_after (Some u)) us) < length (filter (is_after after) us)
walk_falls us after u up e = omega (arith, ap length (next_is after us u up e))

pub none_left : (p : Use → Bool) (us : List Use) → find p us ≡ None → filter p us ≡ []
none_left p [] e = refl
none_left p (v ∷ vs) e =
    elim (p v) as (λ b. cond b (Some v) (find p vs) ≡ None → cond b (v ∷ filter p vs) (filter p vs) ≡ []) [ true ↦ λ some. cc | false ↦ λ later. none_left p vs later ] e

pub held_in_rising : (s : Uses) (k : ℕ) (d : Use) → k < length (rising s) → holds s (get_or (rising s) k d) ≡ true
held_in_rising s k d h =
    let u = get_or (rising s) k d in
    holds-rising use_cmp s u ∙ any_in (eq_by_cmp use_cmp u) (rising s) u (Contains-get_or (rising s) k d h) (ap is_eq (tied_itself use_total u))

pub found_held : (s : Uses) (p : Use → Bool) (u : Use) → find p (rising s) ≡ Some u → holds s u ≡ true
found_held s p u e = first_of_found (λ v. holds s v ≡ true) p (rising s) u (recursion_from_All _ (rising s) (λ k d h. held_in_rising s k d h)) e
