-- Keys and kinds, each with its expiry.
use Rattle.std.proofs.Common.{◌≡◌, ℕ, ◌≤◌, Bool, true, false, not, cond, ◌&&◌, ◌||◌, List, [], ◌∷◌, drop, length, map, refl, sym, ◌∙◌, ap, subst, arith, nat_lt, slice_get, Option, Some, None}
use Rattle.std.proofs.lemmas.Bool.{false≢true}
use Rattle.std.proofs.lemmas.Bool.Decides.{nat_tests}
use Rattle.std.proofs.lemmas.Cmp.{on_total, then_total, nat_cmp_total, nat_list_cmp_total}
use Rattle.std.proofs.lemmas.List.{drop_all}
use Rattle.std.proofs.lemmas.List.Elements.{recursion_from_All, filter_passes}
use Rattle.std.proofs.lemmas.List.Kept.{IsStrictlySortedBy-filter}
use Rattle.std.proofs.lemmas.Map.Views.{any-filter_same}
use Rattle.std.specs.Cmp.{IsTotalOrder, bool_cmp_total}
use Rattle.std.specs.FinMap.{IsAntisymmetric, nat_cmp-IsAntisymmetric, slice_cmp-IsAntisymmetric}
use Rattle.std.specs.List.{AllByRecursion, list_any, filter, prefix_len, dedup, dedup_from}
use Rattle.std.specs.List.Sorted.{IsStrictlySortedBy, IsPartitionedBy}
use Rattle.std.specs.Ordering.{bool_cmp, eq_by_cmp, is_eq, nat_cmp, ordering_then, ordering_reverse}
use Rattle.std.specs.declared.cmp.Ordering.{Ordering}
use Rattle.std.specs.declared.cmp.Ordering.TheVariants.{Less, Equal, Greater}
use Rattle.svid_replay.specs.declared.token_use.Use.{Use}
use Rattle.svid_replay.specs.declared.expiry.KeyKind.{KeyKind}
use Rattle.svid_replay.specs.declared.expiry.Expiry.{Expiry}
use Rattle.svid_replay.specs.Indexed.{is_sought}
use Rattle.svid_replay.specs.Keys.{AreKeys, TellUses, in_front_by, expired_by_then, is_in_front_of, is_held, is_left, left_of, kind_cmp, kind_of, expiry_cmp, expiry_of}
use Rattle.svid_replay.specs.Use.{bytes_cmp, use_cmp}
use Rattle.svid_replay.proofs.ListLemmas.{all_same, any_none, drop-parted, each_true, each_weaker, parted_by}
use Rattle.svid_replay.proofs.MergeLemmas.{merge, merge_has}
use Rattle.svid_replay.proofs.TestsLemmas.{and-false, equal}
use Rattle.svid_replay.proofs.UseLemmas.{both_equal, exact_kinds, use_exact, use_total}

-- the order
pub kind_total : IsTotalOrder kind_cmp
kind_total = then_total (on_total (λ (m : KeyKind). m.key) nat_list_cmp_total) (on_total (λ (m : KeyKind). m.withdrawn) bool_cmp_total)

pub kind_exact : IsAntisymmetric kind_cmp
kind_exact a b e =
    let one = both_equal (bytes_cmp a.key b.key) _ e in
    let key = slice_cmp-IsAntisymmetric nat_cmp-IsAntisymmetric a.key b.key one.0 in
    let withdrawn = exact_kinds a.withdrawn b.withdrawn one.1 in
    λ i. record { key = key i; withdrawn = withdrawn i }

pub until_total : IsTotalOrder expiry_cmp
until_total = then_total (on_total (λ (e : Expiry). e.kind) kind_total) (on_total (λ (e : Expiry). e.exp) nat_cmp_total)

pub until_exact : IsAntisymmetric expiry_cmp
until_exact a b e =
    let one = both_equal (kind_cmp a.kind b.kind) _ e in
    let kind = kind_exact a.kind b.kind one.0 in
    let exp = nat_cmp-IsAntisymmetric a.exp b.exp one.1 in
    λ i. record { kind = kind i; exp = exp i }

-- tests of lists
-- what is kept and passes
any_kept : {X : Type 0} (p q : X → Bool) (xs : List X) → list_any p (filter q xs) ≡ list_any (λ x. p x && q x) xs
any_kept p q [] = refl
any_kept p q (x ∷ xs) = elim (q x) as (λ b. list_any p (cond b (x ∷ filter q xs) (filter q xs)) ≡ ((p x && b) || list_any (λ y. p y && q y) xs)) [
  | true ↦ (λ i. and_true (p x) i || any_kept p q xs i)
  | false ↦ any_kept p q xs ∙ ap (λ b. b || list_any (λ y. p y && q y) xs) (sym (and-false (p x)))
]
  where
    and_true : (b : Bool) → b ≡ (b && true)
    and_true true = refl
    and_true false = refl

any_agree : {X : Type 0} (p q : X → Bool) (xs : List X) → AllByRecursion (λ x. p x ≡ q x) xs → list_any p xs ≡ list_any q xs
any_agree p q [] h = refl
any_agree p q (x ∷ xs) h = λ i. h.0 i || any_agree p q xs h.1 i

any_either : {X : Type 0} (p q : X → Bool) (xs : List X) → (list_any p xs || list_any q xs) ≡ list_any (λ x. p x || q x) xs
any_either p q [] = refl
any_either p q (x ∷ xs) = mixed (p x) (q x) (list_any p xs) (list_any q xs) ∙ ap (λ b. (p x || q x) || b) (any_either p q xs)
  where
    mixed : (a b c d : Bool) → ((a || c) || (b || d)) ≡ ((a || b) || (c || d))
    mixed true b c d = refl
    mixed false true true d = refl
    mixed false true false d = refl
    mixed false false c d = refl

each_kept : {X : Type 0} (q : X → Bool) (xs : List X) → AllByRecursion (λ x. q x ≡ true) (filter q xs)
each_kept q xs = recursion_from_All (λ x. q x ≡ true) (filter q xs) (filter_passes q xs)

any_dedup_from : {X : Type 0} (same : X → X → Bool) (p : X → Bool) → ((x y : X) → same x y ≡ true → x ≡ y) → (k : X) (xs : List X) → list_any p (dedup_from same k xs) ≡ (p k || list_any p xs)
any_dedup_from same p exact k [] = refl
any_dedup_from same p exact k (x ∷ xs) = elim (same x k) as (λ b. same x k ≡ b → list_any p (cond b (dedup_from same k xs) (k ∷ dedup_from same x xs)) ≡ (p k || (p x || list_any p xs))) [
  | true ↦ λ e. any_dedup_from same p exact k xs ∙ twice (p k) (list_any p xs) ∙ ap (λ y. p k || (p y || list_any p xs)) (sym (exact x k e))
  | false ↦ λ _. ap (λ b. p k || b) (any_dedup_from same p exact x xs)
] refl
  where
    twice : (a b : Bool) → (a || b) ≡ (a || (a || b))
    twice true b = refl
    twice false b = refl

pub any_dedup : {X : Type 0} (same : X → X → Bool) (p : X → Bool) → ((x y : X) → same x y ≡ true → x ≡ y) → (xs : List X) → list_any p (dedup same xs) ≡ list_any p xs
any_dedup same p exact [] = refl
any_dedup same p exact (x ∷ xs) = any_dedup_from same p exact x xs

pub any_until : (p : Expiry → Bool) (us : List Use) → list_any p (map expiry_of us) ≡ list_any (λ u. p (expiry_of u)) us
any_until p [] = refl
any_until p (u ∷ us) = ap (λ b. p (expiry_of u) || b) (any_until p us)

pub until_tied : (x y : Expiry) → eq_by_cmp expiry_cmp x y ≡ true → x ≡ y
until_tied x y e = until_exact x y (equal _ e)

-- a look by kind
gone_stays : (expired_by : Option ℕ) (m n : ℕ) → nat_cmp m n ≡ Less → not (is_left expired_by n) ≡ true → not (is_left expired_by m) ≡ true
gone_stays None m n less e = e
gone_stays (Some moment) m n less e = grind (arith, nat_tests, less, e)

behind_equal : (o : Ordering) (expired_by : Option ℕ) (m n : ℕ) → nat_cmp m n ≡ Less → in_front_by o (is_left expired_by n) ≡ true → in_front_by o (is_left expired_by m) ≡ true
behind_equal Less expired_by m n less e = e
behind_equal Equal expired_by m n less e = gone_stays expired_by m n less e
behind_equal Greater expired_by m n less e = e

-- a key and kind that is not less than one is greater than those below that one
above_lesser : (o : Ordering) (kind m n : KeyKind) (left : Bool) → kind_cmp kind n ≡ o → in_front_by o left ≡ true → kind_cmp m n ≡ Less → kind_cmp kind m ≡ Greater
above_lesser Less kind m n left is e less = absurd (false≢true e)
above_lesser Equal kind m n left is e less = kind_total.antisymm kind m ∙ ap ordering_reverse (subst (λ k. kind_cmp m k ≡ Less) (sym (kind_exact kind n is)) less)
above_lesser Greater kind m n left is e less = kind_total.antisymm kind m ∙ ap ordering_reverse (kind_total.trans m n kind less (kind_total.antisymm n kind ∙ ap ordering_reverse is))

behind_falls : (o : Ordering) (kind : KeyKind) (expired_by : Option ℕ) (e f : Expiry) → kind_cmp e.kind f.kind ≡ o → ordering_then o (nat_cmp e.exp f.exp) ≡ Less → is_in_front_of kind expired_by f ≡ true → is_in_front_of kind expired_by e ≡ true
behind_falls Less kind expired_by e f is less b = ap (λ r. in_front_by r (is_left expired_by e.exp)) (above_lesser (kind_cmp kind f.kind) kind e.kind f.kind (is_left expired_by f.exp) refl b is)
behind_falls Equal kind expired_by e f is less b = subst (λ m. in_front_by (kind_cmp kind m) (is_left expired_by e.exp) ≡ true) (sym (kind_exact e.kind f.kind is)) (behind_equal (kind_cmp kind f.kind) expired_by e.exp f.exp less b)
behind_falls Greater kind expired_by e f is less b = let none : Greater ≡ Less = less in cc

pub behind_parted : (kind : KeyKind) (expired_by : Option ℕ) (keys : List Expiry) → AreKeys keys → IsPartitionedBy (is_in_front_of kind expired_by) keys
behind_parted kind expired_by keys up = parted_by expiry_cmp (is_in_front_of kind expired_by) (λ e f less b. behind_falls (kind_cmp e.kind f.kind) kind expired_by e f refl less b) keys up

held_not_behind : (o : Ordering) (left : Bool) → (is_eq o && left) ≡ true → not (in_front_by o left) ≡ true
held_not_behind Less left e = refl
held_not_behind Equal true e = refl
held_not_behind Equal false e = e
held_not_behind Greater left e = absurd (false≢true e)

-- whether the first of a list has the key and kind
head_has : KeyKind → List Expiry → Bool
head_has kind [] = false
head_has kind (e ∷ _) = is_eq (kind_cmp kind e.kind)

later_kind : (o : Ordering) (kind : KeyKind) (e f : Expiry) → kind_cmp e.kind f.kind ≡ o → ordering_then o (nat_cmp e.exp f.exp) ≡ Less → kind_cmp kind e.kind ≡ Less → kind_cmp kind f.kind ≡ Less
later_kind Less kind e f is less below = kind_total.trans kind e.kind f.kind below is
later_kind Equal kind e f is less below = subst (λ m. kind_cmp kind m ≡ Less) (kind_exact e.kind f.kind is) below
later_kind Greater kind e f is less below = let none : Greater ≡ Less = less in cc

not_held : (kind : KeyKind) (expired_by : Option ℕ) (f : Expiry) → kind_cmp kind f.kind ≡ Less → is_held kind expired_by f ≡ false
not_held kind expired_by f below = ap (λ o. is_eq o && is_left expired_by f.exp) below

head_decides : (o : Ordering) (kind : KeyKind) (expired_by : Option ℕ) (e : Expiry) (es : List Expiry) → kind_cmp kind e.kind ≡ o → not (in_front_by o (is_left expired_by e.exp)) ≡ true → AllByRecursion (λ f. expiry_cmp e f ≡ Less) es → is_eq o ≡ ((is_eq o && is_left expired_by e.exp) || list_any (is_held kind expired_by) es)
head_decides Less kind expired_by e es is ahead above = sym (any_none (is_held kind expired_by) es (each_weaker (λ f. expiry_cmp e f ≡ Less) _ (λ f less. not_held kind expired_by f (later_kind (kind_cmp e.kind f.kind) kind e f refl less is)) es above))
head_decides Equal kind expired_by e es is ahead above = left_first (is_left expired_by e.exp) (list_any (is_held kind expired_by) es) ahead
  where
    left_first : (left rest : Bool) → not (not left) ≡ true → true ≡ (left || rest)
    left_first true rest e = refl
    left_first false rest e = absurd (false≢true e)
head_decides Greater kind expired_by e es is ahead above = absurd (false≢true ahead)

first_decides : (kind : KeyKind) (expired_by : Option ℕ) (es : List Expiry) → AreKeys es → AllByRecursion (λ e. not (is_in_front_of kind expired_by e) ≡ true) es → head_has kind es ≡ list_any (is_held kind expired_by) es
unfolding IsStrictlySortedBy head_has
first_decides kind expired_by [] up ahead = refl
first_decides kind expired_by (e ∷ es) up ahead = head_decides (kind_cmp kind e.kind) kind expired_by e es refl ahead.0 up.0

found_left : (kind : KeyKind) (expired_by : Option ℕ) (keys : List Expiry) (i : ℕ) → AreKeys keys → i ≡ prefix_len (is_in_front_of kind expired_by) keys → head_has kind (drop i keys) ≡ list_any (is_held kind expired_by) keys
found_left kind expired_by keys i up at =
    let ahead = λ (e : Expiry). not (is_in_front_of kind expired_by e) in
    let rest : drop i keys ≡ filter ahead keys = ap (λ n. drop n keys) at ∙ drop-parted (is_in_front_of kind expired_by) keys (behind_parted kind expired_by keys up) in
    ap (head_has kind) rest ∙ first_decides kind expired_by (filter ahead keys) (IsStrictlySortedBy-filter expiry_cmp ahead keys up) (each_kept ahead keys)
    ∙ any-filter_same (is_held kind expired_by) ahead true (λ e held. held_not_behind (kind_cmp kind e.kind) (is_left expired_by e.exp) held) keys

head_none : (kind : KeyKind) (es : List Expiry) → slice_get es 0 ≡ None → false ≡ head_has kind es
unfolding head_has
head_none kind [] e = refl
head_none kind (x ∷ es) e = let no_such : ◌≡◌ {A = Option Expiry} (Some x) None = e in cc

head_some : (kind : KeyKind) (es : List Expiry) (f : Expiry) → slice_get es 0 ≡ Some f → is_eq (kind_cmp kind f.kind) ≡ head_has kind es
unfolding head_has
head_some kind [] f e = let no_such : ◌≡◌ {A = Option Expiry} None (Some f) = e in cc
head_some kind (x ∷ es) f e = let it : ◌≡◌ {A = Option Expiry} (Some x) (Some f) = e in let x_is : x ≡ f = cc in ap (λ (g : Expiry). is_eq (kind_cmp kind g.kind)) (sym x_is)

pub none_left : (kind : KeyKind) (expired_by : Option ℕ) (keys : List Expiry) (i : ℕ) → AreKeys keys → i ≡ prefix_len (is_in_front_of kind expired_by) keys → slice_get (drop i keys) 0 ≡ None → false ≡ list_any (is_held kind expired_by) keys
none_left kind expired_by keys i up at none = head_none kind (drop i keys) none ∙ found_left kind expired_by keys i up at

pub some_left : (kind : KeyKind) (expired_by : Option ℕ) (keys : List Expiry) (i : ℕ) (f : Expiry) → AreKeys keys → i ≡ prefix_len (is_in_front_of kind expired_by) keys → slice_get (drop i keys) 0 ≡ Some f → is_eq (kind_cmp kind f.kind) ≡ list_any (is_held kind expired_by) keys
some_left kind expired_by keys i f up at some = head_some kind (drop i keys) f some ∙ found_left kind expired_by keys i up at

-- entries tell of uses
-- those that are left decide a look-up by key and kind
pub tell_kind : (kind : KeyKind) (expired_by : Option ℕ) (keys : List Expiry) (us : List Use) → TellUses (left_of expired_by keys) us → list_any (is_held kind expired_by) keys ≡ list_any (λ u. is_eq (kind_cmp kind (expiry_of u).kind)) us
tell_kind kind expired_by keys us tell = sym (any_kept (λ e. is_eq (kind_cmp kind e.kind)) (λ e. is_left expired_by e.exp) keys) ∙ tell (λ e. is_eq (kind_cmp kind e.kind))

kinds : (a : Ordering) (w : Bool) → (is_eq (ordering_then a (bool_cmp false w)) || is_eq (ordering_then a (bool_cmp true w))) ≡ is_eq a
kinds Less w = refl
kinds Equal true = refl
kinds Equal false = refl
kinds Greater w = refl

gone_kind : (a : Ordering) (w : Bool) → is_eq (ordering_then a (bool_cmp true w)) ≡ (is_eq a && w)
gone_kind Less w = refl
gone_kind Equal true = refl
gone_kind Equal false = refl
gone_kind Greater w = refl

pub tell_withdrawal : (key : List ℕ) (us : List Use) → list_any (λ u. is_eq (kind_cmp (kind_of key true) (expiry_of u).kind)) us ≡ list_any (is_sought true key) us
tell_withdrawal key us = any_agree _ _ us (each_true _ (λ u. gone_kind (bytes_cmp key u.key) u.withdrawn) us)

tell_either : (key : List ℕ) (us : List Use) → (list_any (λ u. is_eq (kind_cmp (kind_of key false) (expiry_of u).kind)) us || list_any (λ u. is_eq (kind_cmp (kind_of key true) (expiry_of u).kind)) us) ≡ list_any (is_sought false key) us
tell_either key us = any_either _ _ us ∙ any_agree _ _ us (each_true _ (λ u. kinds (bytes_cmp key u.key) u.withdrawn) us)

-- a look-up of either kind: the first finds it, or the second is asked
pub tell_first : (key : List ℕ) (us : List Use) (withdrawn found : Bool) → withdrawn ≡ false → found ≡ list_any (λ u. is_eq (kind_cmp (kind_of key false) (expiry_of u).kind)) us → found ≡ true → found ≡ list_any (is_sought withdrawn key) us
tell_first key us withdrawn found kind is there =
    is ∙ (sym is ∙ there) ∙ sym (ap (λ b. b || list_any (λ u. is_eq (kind_cmp (kind_of key true) (expiry_of u).kind)) us) (sym is ∙ there)) ∙ tell_either key us ∙ ap (λ w. list_any (is_sought w key) us) (sym kind)

pub tell_second : (key : List ℕ) (us : List Use) (withdrawn found later : Bool) → withdrawn ≡ false → found ≡ list_any (λ u. is_eq (kind_cmp (kind_of key false) (expiry_of u).kind)) us → found ≡ false → later ≡ list_any (λ u. is_eq (kind_cmp (kind_of key true) (expiry_of u).kind)) us → later ≡ list_any (is_sought withdrawn key) us
tell_second key us withdrawn found later kind is absent there =
    there ∙ sym (ap (λ b. b || list_any (λ u. is_eq (kind_cmp (kind_of key true) (expiry_of u).kind)) us) (sym is ∙ absent)) ∙ tell_either key us ∙ ap (λ w. list_any (is_sought w key) us) (sym kind)

pub left_is_all : (keys : List Expiry) → left_of None keys ≡ keys
left_is_all keys = all_same (λ e. true) keys (each_true _ (λ e. refl) keys)

pub tell_merged : (ks js : List Expiry) (us vs : List Use) → TellUses ks us → TellUses js vs → TellUses (merge expiry_cmp ks js) (merge use_cmp us vs)
tell_merged ks js us vs one other p =
    merge_has until_total until_exact p ks js ∙ (λ i. one p i || other p i) ∙ sym (merge_has use_total use_exact (λ u. p (expiry_of u)) us vs)

-- what expires
left_then : (expired_by : Option ℕ) (moment exp : ℕ) → (is_left expired_by exp && nat_lt moment exp) ≡ is_left (expired_by_then expired_by moment) exp
left_then None moment exp = refl
left_then (Some before) moment exp = grind (arith, nat_tests)

and_again : (a b c : Bool) → (a && (b && c)) ≡ ((a && (b && c)) && b)
and_again true true true = refl
and_again true true false = refl
and_again true false c = refl
and_again false b c = refl

-- when more expires, the entries stand for the uses that are live
pub tell_live : (expired_by : Option ℕ) (moment : ℕ) (keys : List Expiry) (us : List Use) → AllByRecursion (λ u. is_left expired_by u.exp ≡ true) us → TellUses (left_of expired_by keys) us → TellUses (left_of (expired_by_then expired_by moment) keys) (filter (λ u. nat_lt moment u.exp) us)
tell_live expired_by moment keys us live tell p =
    let now = expired_by_then expired_by moment in
    let test = λ (e : Expiry). p e && is_left now e.exp in
    any_kept p (λ e. is_left now e.exp) keys
    ∙ any_agree test (λ e. test e && is_left expired_by e.exp) keys (each_true _ (λ e. again (p e) expired_by moment e.exp) keys)
    ∙ sym (any_kept test (λ e. is_left expired_by e.exp) keys) ∙ tell test
    ∙ any_agree _ _ us (each_weaker (λ u. is_left expired_by u.exp ≡ true) _ (λ u l. ap (λ b. p (expiry_of u) && b) (sym (left_then expired_by moment u.exp) ∙ ap (λ b. b && nat_lt moment u.exp) l)) us live)
    ∙ sym (any_kept (λ u. p (expiry_of u)) (λ u. nat_lt moment u.exp) us)
  where
    again : (b : Bool) (expired_by : Option ℕ) (moment exp : ℕ) → (b && is_left (expired_by_then expired_by moment) exp) ≡ ((b && is_left (expired_by_then expired_by moment) exp) && is_left expired_by exp)
    again b expired_by moment exp = subst (λ l. (b && l) ≡ ((b && l) && is_left expired_by exp)) (left_then expired_by moment exp) (and_again b (is_left expired_by exp) (nat_lt moment exp))

pub live_left : (expired_by : Option ℕ) (moment : ℕ) (us : List Use) → AllByRecursion (λ u. is_left expired_by u.exp ≡ true) us → AllByRecursion (λ u. is_left (expired_by_then expired_by moment) u.exp ≡ true) (filter (λ u. nat_lt moment u.exp) us)
live_left expired_by moment [] live = tt
live_left expired_by moment (u ∷ us) live = elim (nat_lt moment u.exp) as (λ b. nat_lt moment u.exp ≡ b → AllByRecursion (λ v. is_left (expired_by_then expired_by moment) v.exp ≡ true) (cond b (u ∷ filter (λ v. nat_lt moment v.exp) us) (filter (λ v. nat_lt moment v.exp) us))) [
  | true ↦ λ e. (sym (left_then expired_by moment u.exp) ∙ (λ i. live.0 i && e i), live_left expired_by moment us live.1)
  | false ↦ λ _. live_left expired_by moment us live.1
] refl

-- nothing is left after the last key
pub left_at_end : (expired_by : Option ℕ) (keys : List Expiry) (i : ℕ) → length keys ≤ i → left_of expired_by (drop i keys) ≡ []
left_at_end expired_by keys i done = ap (left_of expired_by) (drop_all i keys done)
