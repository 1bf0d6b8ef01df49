use Rattle.std.proofs.Common.{◌≡◌, ◌⊎◌, ⊎_elim, ℕ, ◌<◌, ◌+◌, suc, Bool, true, false, cond, not, ◌&&◌, ◌||◌, List, [], ◌∷◌, ◌++◌, map, length, take, drop, refl, sym, ◌∙◌, ap, subst, T, arith, nat_lt, Some, None, slice_get, All, Contains}
use Rattle.std.specs.FinMap.{IsAntisymmetric, slice_cmp-IsAntisymmetric, nat_cmp-IsAntisymmetric}
use Rattle.std.specs.Cmp.{IsTotalOrder}
use Rattle.std.proofs.lemmas.Cmp.{nat_list_cmp_total, tied_itself, alike_right}
use Rattle.std.specs.List.{AllByRecursion, list_any, filter, prefix_len}
use Rattle.std.specs.List.Sorted.{IsStrictlySortedBy, IsSortedByKey, IsStableByKey, ties}
use Rattle.std.proofs.lemmas.List.Sorted.{sorted_far, ranks_by}
use Rattle.std.proofs.lemmas.Bool.{false≢true}
use Rattle.std.proofs.lemmas.Bool.Decides.{nat_tests}
use Rattle.std.proofs.lemmas.Map.Views.{any-filter_same}
use Rattle.std.proofs.lemmas.List.Elements.{filter_passes, All-contains_itself, All-filter, All-map, recursion_from_All, filter_agree, filter-append}
use Rattle.std.proofs.lemmas.List.Kept.{IsStrictlySortedBy-filter}
use Rattle.std.proofs.lemmas.List.{length-drop, append-nil, append_assoc, map-append, take-append-drop}
use Rattle.std.proofs.lemmas.List.Folds.{list_any-append}
use Rattle.std.specs.Ordering.{eq_by_cmp, is_lt, is_eq, ordering_reverse}
use Rattle.std.specs.declared.cmp.Ordering.{Ordering}
use Rattle.std.specs.declared.cmp.Ordering.TheVariants.{Less, Equal, Greater}
use Rattle.svid_replay.specs.Sets.{set_of}
use Rattle.svid_replay.specs.Use.{bytes_cmp, use_cmp, IsRising}
use Rattle.svid_replay.specs.Twice.{has_key, uses_of, keys_of, twice_of, IsKeySorted, IsTwice, HasTwo}
use Rattle.svid_replay.specs.declared.token_use.Use.{Use}
use Rattle.svid_replay.specs.declared.twice.Twice.{Twice}
use Rattle.svid_replay.proofs.ListLemmas.{all_same, none_same, each_weaker, each_append, found, same_map, any_map, any_here, rises_push, each_drop, any-filter, has_first, has_later, kept_in, in_kept, any_in, many}
use Rattle.svid_replay.proofs.UseLemmas.{use_total}
use Rattle.svid_replay.proofs.SetsLemmas.{same_rising, rising_rises, holds-rising, holds-set_of}
use Rattle.svid_replay.proofs.TestsLemmas.{equal, same_some, or-true, or-false}

-- what a loop over sorted uses has listed when these are left
pub record HasListed (sorted rest : List Use) (listed : List Twice) : Type 0 where
  pub front : List Use
  pub parts : sorted ≡ front ++ rest
  pub left : IsKeySorted rest
  pub below : AllByRecursion (λ u. AllByRecursion (λ v. bytes_cmp u.key v.key ≡ Less) rest) front
  pub value : listed ≡ twice_of front

key_total : IsTotalOrder bytes_cmp
key_total = nat_list_cmp_total

pub key_exact : IsAntisymmetric bytes_cmp
key_exact = slice_cmp-IsAntisymmetric nat_cmp-IsAntisymmetric

-- what a sort by key gives
ahead : (u : Use) (us : List Use) → IsSortedByKey (λ u. u.key) bytes_cmp (u ∷ us) → AllByRecursion (λ v. is_lt (bytes_cmp v.key u.key) ≡ false) us
ahead u us up = recursion_from_All _ us (λ k d h. sorted_far _ (ranks_by key_total (λ u. u.key)) (u ∷ us) up 0 (suc k) d (omega arith) (omega arith))

sorted_tail : (u : Use) (us : List Use) → IsSortedByKey (λ u. u.key) bytes_cmp (u ∷ us) → IsSortedByKey (λ u. u.key) bytes_cmp us
sorted_tail u us up = λ k d low h. let next : suc k + 1 ≡ suc (k + 1) = omega arith in rw next at (up (suc k) d (omega arith) (omega arith))

pub IsKeySorted-from_sort : (us : List Use) → IsSortedByKey (λ u. u.key) bytes_cmp us → IsKeySorted us
IsKeySorted-from_sort [] up = tt
IsKeySorted-from_sort (u ∷ us) up = (ahead u us up, IsKeySorted-from_sort us (sorted_tail u us up))

-- a test of ties is the test of the key
same_ties : (r : Ordering) → (not (is_lt r) && not (is_lt (ordering_reverse r))) ≡ is_eq r
same_ties Less = refl
same_ties Equal = refl
same_ties Greater = refl

used_by : List ℕ → Use
used_by key = record { exp = 0; key = key; validator_id = []; at = 0; withdrawn = false }

ties-has_key : (key : List ℕ) (u : Use) → ties (λ x y. is_lt (bytes_cmp x.key y.key)) (used_by key) u ≡ has_key key u
unfolding used_by
ties-has_key key u = ap (λ r. not (is_lt (bytes_cmp key u.key)) && not (is_lt r)) (key_total.antisymm u.key key) ∙ same_ties (bytes_cmp key u.key)

-- a stable sort by key keeps the uses of each key in their order
pub uses_of-stable : (key : List ℕ) (us vs : List Use) → IsStableByKey (λ u. u.key) bytes_cmp us vs → uses_of key vs ≡ uses_of key us
uses_of-stable key us vs stable = sym (filter_agree _ _ (ties-has_key key) vs) ∙ stable (used_by key) ∙ filter_agree _ _ (ties-has_key key) us

-- the keys of uses
any-keys_of : (us : List Use) (q : List ℕ) → list_any (eq_by_cmp bytes_cmp q) (keys_of us) ≡ list_any (has_key q) us
unfolding keys_of
any-keys_of us q =
    sym (holds-rising bytes_cmp (set_of bytes_cmp (map (λ u. u.key) us)) q) ∙ holds-set_of key_total key_exact (map (λ u. u.key) us) q ∙ any_map (eq_by_cmp bytes_cmp q) (λ u. u.key) us

keys_of_rises : (us : List Use) → IsStrictlySortedBy bytes_cmp (keys_of us)
unfolding keys_of
keys_of_rises us = rising_rises bytes_cmp (set_of bytes_cmp (map (λ u. u.key) us))

same-keys_of : (us : List Use) (ks : List (List ℕ)) → IsStrictlySortedBy bytes_cmp ks → ((q : List ℕ) → list_any (has_key q) us ≡ list_any (eq_by_cmp bytes_cmp q) ks) → keys_of us ≡ ks
same-keys_of us ks up is = same_rising key_total key_exact (keys_of us) ks (keys_of_rises us) up (λ q. any-keys_of us q ∙ is q)

-- what holds of all things that a list has holds of each
from_any : (P : List ℕ → Type 0) (ks : List (List ℕ)) → ((q : List ℕ) → list_any (eq_by_cmp bytes_cmp q) ks ≡ true → P q) → AllByRecursion P ks
from_any P [] f = tt
from_any P (k ∷ ks) f =
    (f k (ap (λ r. is_eq r || list_any (eq_by_cmp bytes_cmp k) ks) (tied_itself key_total k)), from_any P ks (λ q any. f q (ap (λ b. eq_by_cmp bytes_cmp q k || b) any ∙ or-true (eq_by_cmp bytes_cmp q k))))

-- what holds of the key of each use holds of each of their keys
each_key : (P : List ℕ → Type 0) (us : List Use) → AllByRecursion (λ u. P u.key) us → AllByRecursion P (keys_of us)
each_key P us h = from_any P (keys_of us) (λ q any. found (λ u. P u.key) (has_key q) (P q) us h (sym (any-keys_of us q) ∙ any) (λ u k e. subst P (sym (key_exact q u.key (equal _ e))) k))

-- the uses of the least key come first among sorted uses
first_is_less : (r : Ordering) → is_lt (ordering_reverse r) ≡ false → is_eq r ≡ false → r ≡ Less
first_is_less Less h e = refl
first_is_less Equal h e = cc
first_is_less Greater h e = cc

less_or_same : (a b c : List ℕ) (r : Ordering) → bytes_cmp b c ≡ r → bytes_cmp a b ≡ Less → is_lt (bytes_cmp c b) ≡ false → bytes_cmp a c ≡ Less
less_or_same a b c Less e l h = key_total.trans a b c l e
less_or_same a b c Equal e l h = sym (alike_right key_total b c a e) ∙ l
less_or_same a b c Greater e l h =
    let back : bytes_cmp c b ≡ Less = key_total.antisymm c b ∙ ap ordering_reverse e in
    absurd (subst T (sym (ap is_lt back) ∙ h) tt)

-- uses that don't fall below a key, sorted by key, are split after those of the key
record IsSplit (key : List ℕ) (us : List Use) : Type 0 where
  same : AllByRecursion (λ v. has_key key v ≡ true) (take (prefix_len (has_key key) us) us)
  above : AllByRecursion (λ v. bytes_cmp key v.key ≡ Less) (drop (prefix_len (has_key key) us) us)
  left : IsKeySorted (drop (prefix_len (has_key key) us) us)

splits : (key : List ℕ) (us : List Use) → AllByRecursion (λ v. is_lt (bytes_cmp v.key key) ≡ false) us → IsKeySorted us → IsSplit key us
splits key [] low up = record { same = tt; above = tt; left = tt }
splits key (u ∷ us) low up =
    let more = splits key us low.1 up.1 in
    let one_more : 1 + prefix_len (has_key key) us ≡ suc (prefix_len (has_key key) us) = omega arith in
    elim (has_key key u) as (λ b. has_key key u ≡ b → IsSplit key (u ∷ us)) [
      | true ↦ λ e. record {
        same = rw (e, one_more) (e, more.same);
        above = rw (e, one_more) more.above;
        left = rw (e, one_more) more.left;
      }
      | false ↦ λ e.
          let less : bytes_cmp key u.key ≡ Less = first_is_less (bytes_cmp key u.key) (ap is_lt (sym (key_total.antisymm u.key key)) ∙ low.0) e in
          record {
            same = rw e tt;
            above = rw e (less, each_weaker _ _ (λ v h. less_or_same key u.key v.key _ refl less h) us up.0);
            left = rw e up;
          }
    ] refl

-- one more group
abbrev two : Twice → Bool
two t = nat_lt 1 (length t.uses)

abbrev entry : List Use → List ℕ → Twice
entry us key = record { key = key; uses = uses_of key us }

at_key : (q key : List ℕ) (v : Use) → has_key key v ≡ true → has_key q v ≡ eq_by_cmp bytes_cmp q key
at_key q key v e = ap (λ k. is_eq (bytes_cmp q k)) (sym (key_exact key v.key (equal _ e)))

pub record IsGroup (front : List Use) (key : List ℕ) (group : List Use) : Type 0 where
  pub below : AllByRecursion (λ u. bytes_cmp u.key key ≡ Less) front
  pub same : AllByRecursion (λ v. has_key key v ≡ true) group

keys_of-group : (front : List Use) (key : List ℕ) (g : Use) (gs : List Use) → IsGroup front key (g ∷ gs) → keys_of (front ++ g ∷ gs) ≡ keys_of front ++ key ∷ []
keys_of-group front key g gs is =
    same-keys_of (front ++ g ∷ gs) (keys_of front ++ key ∷ []) (rises_push bytes_cmp (keys_of front) key (keys_of_rises front) (each_key (λ k. bytes_cmp k key ≡ Less) front is.below)) (λ q.
    list_any-append (has_key q) front (g ∷ gs)
    ∙ ap (λ b. b || list_any (has_key q) (g ∷ gs)) (sym (any-keys_of front q))
    ∙ ap (λ b. list_any (eq_by_cmp bytes_cmp q) (keys_of front) || b) (any_here (has_key q) (eq_by_cmp bytes_cmp q key) g gs (each_weaker _ _ (λ v e. at_key q key v e) (g ∷ gs) is.same) ∙ sym (or-false (eq_by_cmp bytes_cmp q key)))
    ∙ sym (list_any-append (eq_by_cmp bytes_cmp q) (keys_of front) (key ∷ [])))

uses_of-lesser : (front : List Use) (key : List ℕ) (group : List Use) → IsGroup front key group → (q : List ℕ) → bytes_cmp q key ≡ Less → entry (front ++ group) q ≡ entry front q
uses_of-lesser front key group is q less =
    let none : filter (has_key q) group ≡ [] = none_same (has_key q) group (each_weaker _ _ (λ v e. at_key q key v e ∙ ap is_eq less) group is.same) in
    ap (λ us. record { key = q; uses = us }) (filter-append (has_key q) front group ∙ ap (λ us. filter (has_key q) front ++ us) none ∙ append-nil (filter (has_key q) front))

uses_of-group : (front : List Use) (key : List ℕ) (group : List Use) → IsGroup front key group → uses_of key (front ++ group) ≡ group
uses_of-group front key group is =
    let none : filter (has_key key) front ≡ [] = none_same (has_key key) front (each_weaker _ _ (λ u less. ap is_eq (key_total.antisymm key u.key) ∙ ap (λ r. is_eq (ordering_reverse r)) less) front is.below) in
    filter-append (has_key key) front group ∙ ap (λ us. us ++ filter (has_key key) group) none ∙ all_same (has_key key) group is.same

-- the group of a key that is greater than all before it comes last, where it has more than one use
pub twice_of-group : (front : List Use) (key : List ℕ) (g : Use) (gs : List Use) → IsGroup front key (g ∷ gs) → twice_of (front ++ g ∷ gs) ≡ twice_of front ++ cond (nat_lt 1 (length (g ∷ gs))) (record { key = key; uses = g ∷ gs } ∷ []) []
unfolding twice_of
twice_of-group front key g gs is =
    let group = g ∷ gs in
    ap (λ ks. filter two (map (entry (front ++ group)) ks)) (keys_of-group front key g gs is)
    ∙ ap (filter two) (map-append (entry (front ++ group)) (keys_of front) (key ∷ []))
    ∙ filter-append two (map (entry (front ++ group)) (keys_of front)) (entry (front ++ group) key ∷ [])
    ∙ ap (λ ts. filter two ts ++ filter two (entry (front ++ group) key ∷ [])) (same_map (entry (front ++ group)) (entry front) (keys_of front) (each_key (λ q. entry (front ++ group) q ≡ entry front q) front (each_weaker _ _ (λ u less. uses_of-lesser front key group is u.key less) front is.below)))
    ∙ ap (λ us. filter two (map (entry front) (keys_of front)) ++ filter two (record { key = key; uses = us } ∷ [])) (uses_of-group front key group is)

-- the loop
none_listed : twice_of [] ≡ []
unfolding twice_of IsStrictlySortedBy
none_listed = ap (λ ks. filter two (map (entry []) ks)) (same-keys_of [] [] tt (λ q. refl))

pub has_listed_none : (sorted : List Use) → IsKeySorted sorted → HasListed sorted sorted []
has_listed_none sorted up = record { front = []; parts = refl; left = up; below = tt; value = sym none_listed }

-- the first of the uses with those of its key after it, and the rest
group_of : Use → List Use → List Use
group_of r rs = r ∷ take (prefix_len (has_key r.key) rs) rs

group-take : (r : Use) (rs : List Use) → take (prefix_len (has_key r.key) (r ∷ rs)) (r ∷ rs) ≡ group_of r rs
unfolding group_of
group-take r rs =
    let one_more : 1 + prefix_len (has_key r.key) rs ≡ suc (prefix_len (has_key r.key) rs) = omega arith in
    ap (λ o. take (cond (is_eq o) (1 + prefix_len (has_key r.key) rs) 0) (r ∷ rs)) (tied_itself key_total r.key) ∙ ap (λ n. take n (r ∷ rs)) one_more

rest-drop : (r : Use) (rs : List Use) → drop (prefix_len (has_key r.key) (r ∷ rs)) (r ∷ rs) ≡ drop (prefix_len (has_key r.key) rs) rs
rest-drop r rs =
    let one_more : 1 + prefix_len (has_key r.key) rs ≡ suc (prefix_len (has_key r.key) rs) = omega arith in
    ap (λ o. drop (cond (is_eq o) (1 + prefix_len (has_key r.key) rs) 0) (r ∷ rs)) (tied_itself key_total r.key) ∙ ap (λ n. drop n (r ∷ rs)) one_more

group_listed : (sorted : List Use) (r : Use) (rs : List Use) (listed : List Twice) → HasListed sorted (r ∷ rs) listed → HasListed sorted (drop (prefix_len (has_key r.key) rs) rs) (listed ++ cond (nat_lt 1 (length (group_of r rs))) (record { key = r.key; uses = group_of r rs } ∷ []) [])
unfolding group_of
group_listed sorted r rs listed h =
    let n = prefix_len (has_key r.key) rs in
    let split = splits r.key rs h.left.0 h.left.1 in
    let is : IsGroup h.front r.key (group_of r rs) = record {
      below = each_weaker _ _ (λ u below. below.0) h.front h.below;
      same = (ap is_eq (tied_itself key_total r.key), split.same);
    } in
    record {
      front = h.front ++ group_of r rs;
      parts = h.parts ∙ ap (λ us. h.front ++ r ∷ us) (sym (take-append-drop n rs)) ∙ sym (append_assoc h.front (group_of r rs) (drop n rs));
      left = split.left;
      below = each_append _ h.front (group_of r rs) (each_weaker _ _ (λ u below. each_drop _ n rs below.1) h.front h.below) (each_weaker _ _ (λ v e. subst (λ k. AllByRecursion (λ w. bytes_cmp k w.key ≡ Less) (drop n rs)) (key_exact r.key v.key (equal _ e)) split.above) (group_of r rs) is.same);
      value = ap (λ ts. ts ++ cond (nat_lt 1 (length (group_of r rs))) (record { key = r.key; uses = group_of r rs } ∷ []) []) h.value ∙ sym (twice_of-group h.front r.key r (take n rs) is);
    }

-- the first use that is left, the group that a turn of the loop splits off, and what it leaves
pub record IsTurn (left : List Use) (first : Use) (group others : List Use) : Type 0 where
  pub is_first : slice_get left 0 ≡ Some first
  pub front : group ≡ take (prefix_len (has_key first.key) left) left
  pub rest : others ≡ drop (prefix_len (has_key first.key) left) left

lists_more : (sorted left : List Use) (listed : List Twice) (first : Use) (group others : List Use) → HasListed sorted left listed → IsTurn left first group others → HasListed sorted others (listed ++ cond (nat_lt 1 (length group)) (record { key = first.key; uses = group } ∷ []) [])
lists_more sorted [] listed first group others h is = let e : None ≡ Some first = is.is_first in cc
lists_more sorted (r ∷ rs) listed first group others h is =
    let e : first ≡ r = sym (same_some r first is.is_first) in
    let front : group ≡ group_of r rs = is.front ∙ ap (λ (u : Use). take (prefix_len (has_key u.key) (r ∷ rs)) (r ∷ rs)) e ∙ group-take r rs in
    let rest : others ≡ drop (prefix_len (has_key r.key) rs) rs = is.rest ∙ ap (λ (u : Use). drop (prefix_len (has_key u.key) (r ∷ rs)) (r ∷ rs)) e ∙ rest-drop r rs in
    rw (rest, front, e) (group_listed sorted r rs listed h)

pub falls : (left : List Use) (first : Use) (group others : List Use) → IsTurn left first group others → length others < length left
falls [] first group others is = let e : None ≡ Some first = is.is_first in cc
falls (r ∷ rs) first group others is =
    let e : first ≡ r = sym (same_some r first is.is_first) in
    let rest : others ≡ drop (prefix_len (has_key r.key) rs) rs = is.rest ∙ ap (λ (u : Use). drop (prefix_len (has_key u.key) (r ∷ rs)) (r ∷ rs)) e ∙ rest-drop r rs in
    omega (arith, ap length rest, length-drop (prefix_len (has_key r.key) rs) rs)

pub lists_group : (sorted left : List Use) (listed items : List Twice) (first : Use) (group others uses : List Use) → HasListed sorted left listed → IsTurn left first group others → nat_lt 1 (length group) ≡ true → uses ≡ group → items ≡ listed ++ record { key = first.key; uses = uses } ∷ [] → HasListed sorted others items
lists_group sorted left listed items first group others uses h is many e pushed =
    let more = lists_more sorted left listed first group others h is in
    rw (pushed, e) (rw many at more)

pub lists_nothing : (sorted left : List Use) (listed : List Twice) (first : Use) (group others : List Use) → HasListed sorted left listed → IsTurn left first group others → nat_lt 1 (length group) ≡ false → HasListed sorted others listed
lists_nothing sorted left listed first group others h is few =
    let more = lists_more sorted left listed first group others h is in
    subst (HasListed sorted others) (append-nil listed) (rw few at more)

-- the lists that two lists of uses give
abbrev is_twice_in : List Use → List ℕ → Bool
is_twice_in us key = nat_lt 1 (length (uses_of key us))

abbrev twice_keys : List Use → List (List ℕ)
twice_keys us = filter (is_twice_in us) (keys_of us)

entries_that : (us : List Use) (ks : List (List ℕ)) → filter two (map (entry us) ks) ≡ map (entry us) (filter (is_twice_in us) ks)
entries_that us [] = refl
entries_that us (k ∷ ks) =
    elim (nat_lt 1 (length (uses_of k us))) as (λ b. cond b (entry us k ∷ filter two (map (entry us) ks)) (filter two (map (entry us) ks)) ≡ map (entry us) (cond b (k ∷ filter (is_twice_in us) ks) (filter (is_twice_in us) ks))) [
      | true ↦ ap (λ xs. entry us k ∷ xs) (entries_that us ks)
      | false ↦ entries_that us ks
    ]

more_than_one : (n : ℕ) → (nat_lt 1 n && nat_lt 0 n) ≡ nat_lt 1 n
more_than_one n = grind (arith, nat_tests)

any-twice_keys : (us : List Use) (q : List ℕ) → list_any (eq_by_cmp bytes_cmp q) (twice_keys us) ≡ is_twice_in us q
any-twice_keys us q =
    any-filter_same (eq_by_cmp bytes_cmp q) (is_twice_in us) (is_twice_in us q) (λ k e. ap (is_twice_in us) (sym (key_exact q k (equal _ e)))) (keys_of us) ∙ ap (λ b. is_twice_in us q && b) (any-keys_of us q ∙ any-filter (has_key q) us) ∙ more_than_one (length (uses_of q us))

-- only the keys that more than one use has count
pub same-twice_of : (us vs : List Use) → ((key : List ℕ) → (uses_of key us ≡ uses_of key vs) ⊎ ((is_twice_in us key ≡ false) × (is_twice_in vs key ≡ false))) → twice_of us ≡ twice_of vs
unfolding twice_of
same-twice_of us vs is =
    let keys : twice_keys us ≡ twice_keys vs = same_rising key_total key_exact (twice_keys us) (twice_keys vs) (IsStrictlySortedBy-filter bytes_cmp (is_twice_in us) (keys_of us) (keys_of_rises us)) (IsStrictlySortedBy-filter bytes_cmp (is_twice_in vs) (keys_of vs) (keys_of_rises vs)) (λ q.
    any-twice_keys us q ∙ ⊎_elim (λ e. ap (λ xs. nat_lt 1 (length xs)) e) (λ few. few.0 ∙ sym few.1) (is q) ∙ sym (any-twice_keys vs q)) in
    let each : AllByRecursion (λ k. entry us k ≡ entry vs k) (twice_keys vs) = each_weaker (λ k. is_twice_in vs k ≡ true) (λ k. entry us k ≡ entry vs k) (λ k many. ⊎_elim (λ e. ap (λ xs. record { key = k; uses = xs }) e) (λ few. absurd (false≢true (sym few.1 ∙ many))) (is k)) (twice_keys vs) (recursion_from_All _ (twice_keys vs) (filter_passes (is_twice_in vs) (keys_of vs))) in
    entries_that us (keys_of us) ∙ ap (map (entry us)) keys ∙ same_map (entry us) (entry vs) (twice_keys vs) each ∙ sym (entries_that vs (keys_of vs))

key_in : (ks : List (List ℕ)) (key : List ℕ) → list_any (eq_by_cmp bytes_cmp key) ks ≡ true → Contains ks key
key_in ks key any = found (Contains ks) (eq_by_cmp bytes_cmp key) (Contains ks key) ks (recursion_from_All (Contains ks) ks (All-contains_itself ks)) any (λ k has e. subst (Contains ks) (sym (key_exact key k (equal _ e))) has)

own_key : (key : List ℕ) (u : Use) → u.key ≡ key → has_key key u ≡ true
own_key key u e = ap (λ k. is_eq (bytes_cmp key k)) e ∙ ap is_eq (tied_itself key_total key)

-- of rising uses of one key that are more than one, the first two differ
has_two : (key : List ℕ) (us vs : List Use) → IsRising vs → ((x : Use) → Contains vs x → Contains us x × (has_key key x ≡ true)) → nat_lt 1 (length vs) ≡ true → HasTwo key us
unfolding IsStrictlySortedBy
has_two key us [] up in_us more = absurd (subst T (sym more) tt)
has_two key us (a ∷ []) up in_us more = absurd (subst T (sym more) tt)
has_two key us (a ∷ b ∷ vs) up in_us more =
    let first = in_us a (has_first a (b ∷ vs)) in
    let second = in_us b (has_later a (b ∷ vs) b (has_first b vs)) in
    record {
      one = a;
      other = b;
      differ = λ e. let tied : use_cmp a b ≡ Equal = ap (use_cmp a) (sym e) ∙ tied_itself use_total a in let less : use_cmp a b ≡ Less = up.0.0 in absurd (subst T (ap is_lt (sym less ∙ tied)) tt);
      one_in = first.0;
      other_in = second.0;
      one_key = sym (key_exact key a.key (equal _ first.1));
      other_key = sym (key_exact key b.key (equal _ second.1));
    }

-- what is listed
keys_that : (us : List Use) (ks : List (List ℕ)) → map (λ t. t.key) (filter two (map (entry us) ks)) ≡ filter (λ key. nat_lt 1 (length (uses_of key us))) ks
keys_that us [] = refl
keys_that us (k ∷ ks) =
    elim (nat_lt 1 (length (uses_of k us))) as (λ b. map (λ t. t.key) (cond b (entry us k ∷ filter two (map (entry us) ks)) (filter two (map (entry us) ks))) ≡ cond b (k ∷ filter (λ key. nat_lt 1 (length (uses_of key us))) ks) (filter (λ key. nat_lt 1 (length (uses_of key us))) ks)) [
      | true ↦ ap (λ xs. k ∷ xs) (keys_that us ks)
      | false ↦ keys_that us ks
    ]

each_whole : (us : List Use) → All (λ t. t.uses ≡ uses_of t.key us) (twice_of us)
unfolding twice_of
each_whole us = All-filter two (λ t. t.uses ≡ uses_of t.key us) _ (All-map (λ t. t.uses ≡ uses_of t.key us) (entry us) (keys_of us) (λ k d h. refl))

listed_keys : (us : List Use) → map (λ t. t.key) (twice_of us) ≡ filter (λ key. nat_lt 1 (length (uses_of key us))) (keys_of us)
unfolding twice_of
listed_keys us = keys_that us (keys_of us)

pub is_twice : (us : List Use) → IsRising us → IsTwice us (twice_of us)
is_twice us up = record {
  rising = rw (listed_keys us) (IsStrictlySortedBy-filter bytes_cmp _ (keys_of us) (keys_of_rises us));
  exactly = λ key. (
    λ listed. let kept = rw (listed_keys us) at listed in has_two key us (uses_of key us) (IsStrictlySortedBy-filter use_cmp (has_key key) us up) (kept_in (has_key key) us) (kept_in (λ k. nat_lt 1 (length (uses_of k us))) (keys_of us) key kept).1,
    λ both. rw (listed_keys us) (in_kept (λ k. nat_lt 1 (length (uses_of k us))) (keys_of us) key (key_in (keys_of us) key (any-keys_of us key ∙ any_in (has_key key) us both.one both.one_in (own_key key both.one both.one_key))) (many (uses_of key us) both.one both.other both.differ (in_kept (has_key key) us both.one both.one_in (own_key key both.one both.one_key)) (in_kept (has_key key) us both.other both.other_in (own_key key both.other both.other_key)))),
  );
  whole = each_whole us;
}
