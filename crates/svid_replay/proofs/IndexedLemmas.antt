use Rattle.std.proofs.Common.{◌≡◌, ℕ, zero, suc, ◌<◌, ◌≤◌, ◌+◌, Bool, true, false, cond, ◌&&◌, ◌||◌, List, [], ◌∷◌, ap, refl, sym, ◌∙◌, subst, arith, length, find, Option, Some, None, is_some, Bor, MatchOption, nat_lt, replicate, inl, inr}
use Rattle.std.proofs.lemmas.Bool.{true≢false, or_right, or_cases, false_from_ne_true, true_from_ne_false}
use Rattle.std.proofs.lemmas.Bool.Decides.{nat_tests}
use Rattle.std.proofs.lemmas.Cmp.{on_total, then_total, nat_cmp_total, nat_list_cmp_total, tied_itself}
use Rattle.std.proofs.lemmas.List.Elements.{filter_agree}
use Rattle.std.proofs.lemmas.Map.Lookups.{exact_pairs, exact_unsigned, exact_bytes}
use Rattle.std.specs.BTreeMap.{is_at}
use Rattle.std.specs.Cmp.{IsTotalOrder, bool_cmp_total, eq_by_cmp_equiv}
use Rattle.std.specs.Cmp.Lexicographic.{slice_cmp}
use Rattle.std.specs.List.{AllByRecursion, list_any, filter}
use Rattle.std.specs.List.Sorted.{IsStrictlySortedBy}
use Rattle.std.specs.Option.{option_copied}
use Rattle.std.specs.Ordering.{is_eq, is_gt, eq_by_cmp, nat_cmp, bool_cmp, ordering_reverse, ordering_then}
use Rattle.std.specs.Set.{remove_key}
use Rattle.std.specs.declared.cmp.Ordering.{Ordering}
use Rattle.std.specs.declared.cmp.Ordering.TheVariants.{Less, Equal, Greater}
use Rattle.svid_replay.specs.declared.token_use.Use.{Use}
use Rattle.svid_replay.specs.declared.key_first.KeyFirst.{KeyFirst}
use Rattle.svid_replay.specs.Indexed.{key_first_cmp, key_first, has_use, has_key_first, is_sought, IsIndexed, first_expired}
use Rattle.svid_replay.specs.Sets.{holds, with}
use Rattle.svid_replay.specs.Twice.{has_key}
use Rattle.svid_replay.specs.Use.{bytes_cmp, use_cmp, IsRising}
use Rattle.svid_replay.specs.Uses.{uses_in, live, count}
use Rattle.svid_replay.proofs.ListLemmas.{all_same}
use Rattle.svid_replay.proofs.SetsLemmas.{holds-with}
use Rattle.svid_replay.proofs.TestsLemmas.{equal, one_test}
use Rattle.svid_replay.proofs.UseLemmas.{use_total, use_exact, exact_kinds}
use Rattle.svid_replay.proofs.UsesLemmas.{holds-uses_in, same_uses, less_exp, rising-uses_in, uses_in-filter}

pub key_first_total : IsTotalOrder key_first_cmp
key_first_total =
    then_total (on_total (λ (k : KeyFirst). k.key) nat_list_cmp_total) (then_total (on_total (λ (k : KeyFirst). k.withdrawn) bool_cmp_total) (then_total (on_total (λ (k : KeyFirst). k.exp) nat_cmp_total) (then_total (on_total (λ (k : KeyFirst). k.validator_id) nat_list_cmp_total) (on_total (λ (k : KeyFirst). k.at) nat_cmp_total))))

-- the fields of a use with its key first, and the use of such fields
abbrev row : KeyFirst → List ℕ × (Bool × (ℕ × (List ℕ × ℕ)))
row k = (k.key, (k.withdrawn, (k.exp, (k.validator_id, k.at))))

abbrev use_of : List ℕ × (Bool × (ℕ × (List ℕ × ℕ))) → Use
use_of p = record { exp = p.1.1.0; key = p.0; validator_id = p.1.1.1.0; at = p.1.1.1.1; withdrawn = p.1.0 }

key_first_exact : (u v : Use) → key_first_cmp (key_first u) (key_first v) ≡ Equal → u ≡ v
key_first_exact u v h =
    ap use_of (exact_pairs (slice_cmp nat_cmp) _ exact_bytes (exact_pairs bool_cmp _ exact_kinds (exact_pairs nat_cmp _ exact_unsigned (exact_pairs (slice_cmp nat_cmp) nat_cmp exact_bytes exact_unsigned))) (row (key_first u)) (row (key_first v)) h)

-- the two orders tell the same uses apart
key_first_same : (u q : Use) → eq_by_cmp key_first_cmp (key_first u) (key_first q) ≡ eq_by_cmp use_cmp u q
key_first_same u q = one_test _ _
    (λ e. let is : u ≡ q = key_first_exact u q (equal _ e) in subst (λ v. eq_by_cmp use_cmp u v ≡ true) is (ap is_eq (tied_itself use_total u)))
    (λ e. let is : u ≡ q = use_exact u q (equal _ e) in subst (λ v. eq_by_cmp key_first_cmp (key_first u) (key_first v) ≡ true) is (ap is_eq (tied_itself key_first_total (key_first u))))

-- a use is put into both orders, or taken out of the first again
-- each list has a use where the old one had it, but for one use, which it has or hasn't
abbrev pub Changes : List Use → Use → Bool → List Use → Type 0
Changes us u has vs = (q : Use) → has_use vs q ≡ cond (eq_by_cmp use_cmp u q) has (has_use us q)

abbrev pub ChangesByKey : List KeyFirst → Use → Bool → List KeyFirst → Type 0
ChangesByKey ks u has js = (k : KeyFirst) → has_key_first js k ≡ cond (eq_by_cmp key_first_cmp (key_first u) k) has (has_key_first ks k)

or_from_cond : (b x : Bool) → cond b true x ≡ (b || x)
or_from_cond true x = refl
or_from_cond false x = refl

pub uses_gained : (us vs : List Use) (u : Use) → Changes us u true vs → uses_in vs ≡ with (uses_in us) u
uses_gained us vs u gained = same_uses (uses_in vs) (with (uses_in us) u) (λ q.
    holds-uses_in vs q ∙ gained q ∙ or_from_cond (eq_by_cmp use_cmp u q) (has_use us q)
    ∙ (λ i. (eq_by_cmp_equiv use_total).symm u q i || sym (holds-uses_in us q) i) ∙ sym (holds-with use_total use_exact (uses_in us) u q))

pub indexed_gained : (us vs : List Use) (ks js : List KeyFirst) (u : Use) → IsIndexed us ks → IsRising vs → IsStrictlySortedBy key_first_cmp js → length u.validator_id ≡ 16 → Changes us u true vs → ChangesByKey ks u true js → IsIndexed vs js
indexed_gained us vs ks js u is up by_key wide gained gained_first = record {
  rising = up;
  by_key = by_key;
  same = λ q. gained_first (key_first q) ∙ (λ i. cond (key_first_same u q i) true (is.same q i)) ∙ sym (gained q);
  wide = λ q held. elim (eq_by_cmp use_cmp u q) as (λ b. eq_by_cmp use_cmp u q ≡ b → cond b true (has_use us q) ≡ true → length q.validator_id ≡ 16) [
    | true ↦ λ e _. subst (λ (w : Use). length w.validator_id ≡ 16) (use_exact u q (equal _ e)) wide
    | false ↦ λ e was. is.wide q was
  ] refl (sym (gained q) ∙ held);
}

-- the use went in and out again
same_again : (us vs ws : List Use) (u : Use) → has_use us u ≡ false → Changes us u true vs → Changes vs u false ws → (q : Use) → has_use ws q ≡ has_use us q
same_again us vs ws u absent gained lost q = lost q ∙ ap (cond (eq_by_cmp use_cmp u q) false) (gained q) ∙ elim (eq_by_cmp use_cmp u q) as (λ b. eq_by_cmp use_cmp u q ≡ b → cond b false (cond b true (has_use us q)) ≡ has_use us q) [
  | true ↦ λ e. sym (subst (λ v. has_use us v ≡ false) (use_exact u q (equal _ e)) absent)
  | false ↦ λ e. refl
] refl

pub uses_same : (us vs ws : List Use) (u : Use) → has_use us u ≡ false → Changes us u true vs → Changes vs u false ws → uses_in ws ≡ uses_in us
uses_same us vs ws u absent gained lost = same_uses (uses_in ws) (uses_in us) (λ q. holds-uses_in ws q ∙ same_again us vs ws u absent gained lost q ∙ sym (holds-uses_in us q))

pub indexed_same : (us vs ws : List Use) (ks js : List KeyFirst) (u : Use) → IsIndexed us ks → IsRising ws → has_use us u ≡ false → Changes us u true vs → Changes vs u false ws → js ≡ ks → IsIndexed ws js
indexed_same us vs ws ks js u is up absent gained lost no_change = record {
  rising = up;
  by_key = subst (IsStrictlySortedBy key_first_cmp) (sym no_change) is.by_key;
  same = λ q. ap (λ ls. has_key_first ls (key_first q)) no_change ∙ is.same q ∙ sym (same_again us vs ws u absent gained lost q);
  wide = λ q held. is.wide q (sym (same_again us vs ws u absent gained lost q) ∙ held);
}

-- a use that the list does not have is not held
pub not_held : {G : Type 0} (us : List Use) (u : Use) → has_use us u ≡ false → holds (uses_in us) u ≡ true → G
not_held us u absent held = absurd (true≢false (sym held ∙ holds-uses_in us u ∙ absent))

-- the least use is dropped
below_absent : (u : Use) (us : List Use) → AllByRecursion (λ v. use_cmp u v ≡ Less) us → has_use us u ≡ false
below_absent u [] all = refl
below_absent u (v ∷ us) all = ap (λ o. is_eq o || has_use us u) all.0 ∙ below_absent u us all.1

-- the least use, the uses after it, and that it expires by the moment
pub record IsLeast (moment : ℕ) (us : List Use) (u : Use) (rest : List Use) : Type 0 where
  pub parts : us ≡ u ∷ rest
  pub expired : nat_lt moment u.exp ≡ false

pub least_expired : (moment : ℕ) (us : List Use) (u : Use) → Some u ≡ first_expired moment us → (rest : List Use) × IsLeast moment us u rest
least_expired moment [] u e = absurd (true≢false (ap is_some e))
least_expired moment (v ∷ us) u e =
    elim (nat_lt moment v.exp) as (λ b. nat_lt moment v.exp ≡ b → Some u ≡ cond b None (Some v) → (rest : List Use) × IsLeast moment (v ∷ us) u rest) [
      | true ↦ λ _ is. absurd (true≢false (ap is_some is))
      | false ↦ λ expired_by is. let same : v ≡ u = same_use v u (sym is) in (us, record { parts = ap (λ w. w ∷ us) same; expired = subst (λ (w : Use). nat_lt moment w.exp ≡ false) same expired_by })
    ] refl e
  where
    same_use : (v u : Use) → ◌≡◌ {A = Option Use} (Some v) (Some u) → v ≡ u
    same_use v u e = cc

later_all : (moment : ℕ) (v : Use) (us : List Use) → nat_lt moment v.exp ≡ true → AllByRecursion (λ u. use_cmp v u ≡ Less) us → AllByRecursion (λ u. nat_lt moment u.exp ≡ true) us
later_all moment v [] later all = tt
later_all moment v (u ∷ us) later all = (let le = less_exp v u all.0 in grind (arith, nat_tests), later_all moment v us later all.1)

-- the least use expires after the moment, and so do all
pub none_expired : (moment : ℕ) (us : List Use) → IsRising us → None ≡ first_expired moment us → filter (λ u. nat_lt moment u.exp) us ≡ us
unfolding IsStrictlySortedBy
none_expired moment [] up e = refl
none_expired moment (v ∷ us) up e =
    elim (nat_lt moment v.exp) as (λ b. nat_lt moment v.exp ≡ b → None ≡ cond b None (Some v) → filter (λ u. nat_lt moment u.exp) (v ∷ us) ≡ v ∷ us) [
      | true ↦ λ later _. all_same (λ u. nat_lt moment u.exp) (v ∷ us) (later, later_all moment v us later up.0)
      | false ↦ λ _ none. absurd (true≢false (sym (ap is_some none)))
    ] refl e

pub least_removed : (moment : ℕ) (us : List Use) (u : Use) (rest : List Use) → IsLeast moment us u rest → remove_key (is_at (use_cmp u)) us ≡ rest
least_removed moment us u rest is = ap (remove_key (is_at (use_cmp u))) is.parts ∙ ap (λ o. cond (is_eq o) rest (u ∷ remove_key (is_at (use_cmp u)) rest)) (tied_itself use_total u)

one_lost : (u : Use) (rest : List Use) (q : Use) → AllByRecursion (λ v. use_cmp u v ≡ Less) rest → cond (eq_by_cmp use_cmp u q) false (has_use (u ∷ rest) q) ≡ has_use rest q
one_lost u rest q below = elim (eq_by_cmp use_cmp u q) as (λ b. eq_by_cmp use_cmp u q ≡ b → cond b false (eq_by_cmp use_cmp q u || has_use rest q) ≡ has_use rest q) [
  | true ↦ λ e. sym (subst (λ w. has_use rest w ≡ false) (use_exact u q (equal _ e)) (below_absent u rest below))
  | false ↦ λ e. ap (λ b. b || has_use rest q) ((eq_by_cmp_equiv use_total).symm q u ∙ e)
] refl

-- what a loop has dropped of the old uses when these are left
pub record HasDropped (moment : ℕ) (old us : List Use) (ks : List KeyFirst) : Type 0 where
  pub indexed : IsIndexed us ks
  pub left : filter (λ u. nat_lt moment u.exp) us ≡ filter (λ u. nat_lt moment u.exp) old
  pub fewer : length us ≤ length old

pub drops_more : (moment : ℕ) (old us vs : List Use) (ks js : List KeyFirst) (u : Use) → HasDropped moment old us ks → Some u ≡ first_expired moment us → vs ≡ remove_key (is_at (use_cmp u)) us → IsStrictlySortedBy key_first_cmp js → ChangesByKey ks u false js → HasDropped moment old vs js
unfolding IsStrictlySortedBy
drops_more moment old us vs ks js u so_far least removed by_key lost =
    let found = least_expired moment us u least in
    let rest = found.0 in
    let is = found.1 in
    let after : vs ≡ rest = removed ∙ least_removed moment us u rest is in
    let up : IsRising (u ∷ rest) = subst IsRising is.parts so_far.indexed.rising in
    record {
      indexed = record {
        rising = subst IsRising (sym after) up.1;
        by_key = by_key;
        same = λ q. lost (key_first q) ∙ (λ i. cond (key_first_same u q i) false (so_far.indexed.same q i)) ∙ ap (λ ws. cond (eq_by_cmp use_cmp u q) false (has_use ws q)) is.parts ∙ one_lost u rest q up.0 ∙ ap (λ ws. has_use ws q) (sym after);
        wide = λ q held. so_far.indexed.wide q (ap (λ ws. has_use ws q) is.parts ∙ or_right (eq_by_cmp use_cmp q u) (has_use rest q) (ap (λ ws. has_use ws q) (sym after) ∙ held));
      };
      left = ap (filter (λ w. nat_lt moment w.exp)) after ∙ sym (ap (filter (λ w. nat_lt moment w.exp)) is.parts ∙ ap (λ b. cond b (u ∷ filter (λ w. nat_lt moment w.exp) rest) (filter (λ w. nat_lt moment w.exp) rest)) is.expired) ∙ so_far.left;
      fewer = omega (arith, ap length after, ap length is.parts, so_far.fewer);
    }

pub drops_fewer : (moment : ℕ) (us vs : List Use) (u : Use) → Some u ≡ first_expired moment us → vs ≡ remove_key (is_at (use_cmp u)) us → length vs < length us
drops_fewer moment us vs u least removed =
    let found = least_expired moment us u least in
    omega (arith, ap length (removed ∙ least_removed moment us u found.0 found.1), ap length found.1.parts)

pub dropped_all : (moment : ℕ) (old us : List Use) (ks : List KeyFirst) → HasDropped moment old us ks → None ≡ first_expired moment us → uses_in us ≡ live (uses_in old) moment
dropped_all moment old us ks so_far none = ap uses_in (sym (none_expired moment us so_far.indexed.rising none) ∙ so_far.left) ∙ uses_in-filter (λ u. nat_lt moment u.exp) old

pub dropped_count : (moment dropped : ℕ) (old us : List Use) (js ks : List KeyFirst) → IsIndexed old js → HasDropped moment old us ks → dropped + length us ≡ length old → dropped + count (uses_in us) ≡ count (uses_in old)
dropped_count moment dropped old us js ks was so_far sum = omega (arith, sum, ap length (rising-uses_in us so_far.indexed.rising), ap length (rising-uses_in old was.rising))

-- the next use
head_found : (p : Use → Bool) (us : List Use) (u : Use) (rest : List Use) → filter p us ≡ u ∷ rest → find p us ≡ Some u
head_found p [] u rest e = cc
head_found p (v ∷ us) u rest e =
    elim (p v) as (λ b. cond b (v ∷ filter p us) (filter p us) ≡ u ∷ rest → cond b (Some v) (find p us) ≡ Some u) [
      | true ↦ λ is. ap Some (same_head is)
      | false ↦ λ is. head_found p us u rest is
    ] e
  where
    same_head : {xs ys : List Use} → ◌≡◌ {A = List Use} (v ∷ xs) (u ∷ ys) → v ≡ u
    same_head e = cc

none_found : (p : Use → Bool) (us : List Use) → filter p us ≡ [] → find p us ≡ None
none_found p [] e = refl
none_found p (v ∷ us) e =
    elim (p v) as (λ b. cond b (v ∷ filter p us) (filter p us) ≡ [] → cond b (Some v) (find p us) ≡ None) [
      | true ↦ λ is. cc
      | false ↦ λ is. none_found p us is
    ] e

-- what `next` gives of the uses that pass
pub first_found : (p q : Use → Bool) (us part rest : List Use) (o : Option (Bor Use)) → ((u : Use) → q u ≡ p u) → part ≡ filter q us → MatchOption o ((part ≡ []) × (rest ≡ [])) (λ x. part ≡ x.now ∷ rest) → option_copied o ≡ find p us
first_found p q us part rest None alike is e = sym (none_found p us (filter_agree p q (λ u. sym (alike u)) us ∙ sym is ∙ e.0))
first_found p q us part rest (Some x) alike is e = sym (head_found p us x.now rest (filter_agree p q (λ u. sym (alike u)) us ∙ sym is ∙ e))

pub and_true : (b : Bool) → (b && true) ≡ b
and_true true = refl
and_true false = refl

pub all_pass : (us : List Use) → us ≡ filter (λ u. true) us
all_pass [] = refl
all_pass (u ∷ us) = ap (λ vs. u ∷ vs) (all_pass us)

-- a look-up by key
abbrev pub least_of : Bool → List ℕ → KeyFirst
least_of withdrawn key = record { key = key; withdrawn = withdrawn; exp = 0; validator_id = replicate 16 0; at = 0 }

-- a withdrawal is there where one is sought
abbrev Fits : Bool → Bool → Type 0
Fits sought withdrawn = sought ≡ true → withdrawn ≡ true

pub sought_key : (s : Bool) (key : List ℕ) (u : Use) → is_sought s key u ≡ true → has_key key u ≡ true
sought_key false key u e = e
sought_key true key u e = and_first (has_key key u) u.withdrawn e
  where
    and_first : (a b : Bool) → (a && b) ≡ true → a ≡ true
    and_first true b e = refl
    and_first false b e = e

sought_kind : (s : Bool) (key : List ℕ) (u : Use) → is_sought s key u ≡ true → Fits s u.withdrawn
sought_kind false key u e = λ no. absurd (true≢false (sym no))
sought_kind true key u e = λ _. and_second (has_key key u) u.withdrawn e
  where
    and_second : (a b : Bool) → (a && b) ≡ true → b ≡ true
    and_second true b e = e
    and_second false b e = absurd (true≢false (sym e))

is_sought_by : (s : Bool) (key : List ℕ) (u : Use) → has_key key u ≡ true → Fits s u.withdrawn → is_sought s key u ≡ true
is_sought_by false key u e fits = e
is_sought_by true key u e fits = (λ i. e i && fits refl i)

kind_le : (s w : Bool) → Fits s w → is_gt (bool_cmp s w) ≡ false
kind_le false false fits = refl
kind_le false true fits = refl
kind_le true false fits = sym (fits refl)
kind_le true true fits = refl

kind_above : (s w : Bool) → is_gt (bool_cmp s w) ≡ false → Fits s w
kind_above false w e = λ no. absurd (true≢false (sym no))
kind_above true false e = λ _. sym e
kind_above true true e = λ _. refl

not_gt_then : (a b : Ordering) → is_gt (ordering_then a b) ≡ false → is_gt a ≡ false
not_gt_then Less b e = refl
not_gt_then Equal b e = refl
not_gt_then Greater b e = e

gt_then : (a b : Ordering) → is_gt a ≡ false → is_gt b ≡ false → is_gt (ordering_then a b) ≡ false
gt_then Less b p q = refl
gt_then Equal b p q = q
gt_then Greater b p q = p

zero_le : (n : ℕ) → is_gt (nat_cmp 0 n) ≡ false
zero_le zero = refl
zero_le (suc n) = ap is_gt (let e : nat_cmp 0 (suc n) ≡ Less = grind (arith, nat_tests) in e)

zeros_le : (n : ℕ) (p : List ℕ) → length p ≡ n → is_gt (slice_cmp nat_cmp (replicate n 0) p) ≡ false
zeros_le zero [] e = refl
zeros_le zero (x ∷ p) e = absurd (omega arith)
zeros_le (suc n) [] e = absurd (omega arith)
zeros_le (suc n) (x ∷ p) e = gt_then (nat_cmp 0 x) _ (zero_le x) (zeros_le n p (omega arith))

same_rows : (key other : List ℕ) → other ≡ key → slice_cmp nat_cmp key other ≡ Equal
same_rows key other is = ap (slice_cmp nat_cmp key) is ∙ tied_itself nat_list_cmp_total key

-- nothing that matches is below the least
least_le : (s : Bool) (key : List ℕ) (k : KeyFirst) → k.key ≡ key → Fits s k.withdrawn → length k.validator_id ≡ 16 → is_gt (key_first_cmp (least_of s key) k) ≡ false
least_le s key k is fits wide =
    gt_then (slice_cmp nat_cmp key k.key) _ (ap is_gt (same_rows key k.key is)) (gt_then (bool_cmp s k.withdrawn) _ (kind_le s k.withdrawn fits) (gt_then (nat_cmp 0 k.exp) _ (zero_le k.exp) (gt_then (slice_cmp nat_cmp (replicate 16 0) k.validator_id) _ (zeros_le 16 k.validator_id wide) (zero_le k.at))))

-- what has the key and is not below the least is of the kind that is looked up
above_least : (s : Bool) (key : List ℕ) (k : KeyFirst) → k.key ≡ key → is_gt (key_first_cmp (least_of s key) k) ≡ false → Fits s k.withdrawn
above_least s key k is low =
    kind_above s k.withdrawn (not_gt_then (bool_cmp s k.withdrawn) _ (subst (λ o. is_gt (ordering_then o (ordering_then (bool_cmp s k.withdrawn) (ordering_then (nat_cmp 0 k.exp) (ordering_then (slice_cmp nat_cmp (replicate 16 0) k.validator_id) (nat_cmp 0 k.at))))) ≡ false) (same_rows key k.key is) low))

equal_of : (o : Ordering) → is_gt o ≡ false → is_gt (ordering_reverse o) ≡ false → o ≡ Equal
equal_of Less p q = absurd (true≢false q)
equal_of Equal p q = refl
equal_of Greater p q = absurd (true≢false p)

squeezed : (a b : List ℕ) → is_gt (slice_cmp nat_cmp a b) ≡ false → is_gt (slice_cmp nat_cmp b a) ≡ false → a ≡ b
squeezed a b p q = exact_bytes a b (equal_of (slice_cmp nat_cmp a b) p (ap is_gt (sym (nat_list_cmp_total.antisymm b a)) ∙ q))

-- anything between the least of a key and a use of that key has the key
between_key : (s : Bool) (key : List ℕ) (k h : KeyFirst) → h.key ≡ key → is_gt (key_first_cmp (least_of s key) k) ≡ false → is_gt (key_first_cmp k h) ≡ false → k.key ≡ key
between_key s key k h is low high =
    sym (squeezed key k.key (not_gt_then (slice_cmp nat_cmp key k.key) _ low) (subst (λ b. is_gt (slice_cmp nat_cmp k.key b) ≡ false) is (not_gt_then (slice_cmp nat_cmp k.key h.key) _ high)))

pub same_key : (key other : List ℕ) → is_eq (bytes_cmp key other) ≡ true → other ≡ key
same_key key other e = sym (exact_bytes key other (equal _ e))

own_key : (key other : List ℕ) → other ≡ key → is_eq (bytes_cmp key other) ≡ true
own_key key other e = ap (λ k. is_eq (bytes_cmp key k)) e ∙ ap is_eq (tied_itself nat_list_cmp_total key)

pub any_use : (p : Use → Bool) (us : List Use) (u : Use) → has_use us u ≡ true → p u ≡ true → list_any p us ≡ true
any_use p [] u held is = absurd (true≢false (sym held))
any_use p (v ∷ us) u held is = elim (or_cases (eq_by_cmp use_cmp u v) (has_use us u) held) [
  | inl same ↦ ap (λ b. b || list_any p us) (ap p (sym (use_exact u v (equal _ same))) ∙ is)
  | inr later ↦ or_right (p v) (list_any p us) (any_use p us u later is)
]

no_use : (p : Use → Bool) (us : List Use) → ((u : Use) → has_use us u ≡ true → p u ≡ false) → list_any p us ≡ false
no_use p [] each = refl
no_use p (v ∷ us) each =
    ap (λ b. b || list_any p us) (each v (ap (λ o. is_eq o || has_use us v) (tied_itself use_total v)))
    ∙ no_use p us (λ u held. each u (or_right (eq_by_cmp use_cmp u v) (has_use us u) held))

-- a use that matches is not below the least
sought_above : (s : Bool) (us : List Use) (ks : List KeyFirst) (key : List ℕ) (u : Use) → IsIndexed us ks → has_use us u ≡ true → is_sought s key u ≡ true → is_gt (key_first_cmp (least_of s key) (key_first u)) ≡ false
sought_above s us ks key u is held sought = least_le s key (key_first u) (same_key key u.key (sought_key s key u sought)) (sought_kind s key u sought) (is.wide u held)

pub none_in_range : (s : Bool) (us : List Use) (ks : List KeyFirst) (key : List ℕ) → IsIndexed us ks → ((k : KeyFirst) → is_gt (key_first_cmp (least_of s key) k) ≡ false → has_key_first ks k ≡ false) → false ≡ list_any (is_sought s key) us
none_in_range s us ks key is none = sym (no_use (is_sought s key) us (λ u held. false_from_ne_true _ (λ sought.
    true≢false (sym held ∙ sym (is.same u) ∙ none (key_first u) (sought_above s us ks key u is held sought)))))

-- the first of the list that is not below the least of a key
pub record IsFirstFrom (s : Bool) (key : List ℕ) (ks : List KeyFirst) (k : KeyFirst) : Type 0 where
  pub low : is_gt (key_first_cmp (least_of s key) k) ≡ false
  pub held : has_key_first ks k ≡ true
  pub least : (j : KeyFirst) → is_gt (key_first_cmp (least_of s key) j) ≡ false → has_key_first ks j ≡ true → is_gt (key_first_cmp k j) ≡ false

pub first_in_range : (s : Bool) (us : List Use) (ks : List KeyFirst) (key : List ℕ) (k : KeyFirst) → IsIndexed us ks → IsFirstFrom s key ks k → is_eq (bytes_cmp key k.key) ≡ list_any (is_sought s key) us
first_in_range s us ks key k is first = one_test (is_eq (bytes_cmp key k.key)) (list_any (is_sought s key) us)
    (λ with_key. any_use (is_sought s key) us (use_of (row k)) (sym (is.same (use_of (row k))) ∙ first.held) (is_sought_by s key (use_of (row k)) with_key (above_least s key k (same_key key k.key with_key) first.low)))
    (λ found. true_from_ne_false _ (λ other. true≢false (sym found ∙ no_use (is_sought s key) us (λ u held. false_from_ne_true _ (λ sought.
    let own : u.key ≡ key = same_key key u.key (sought_key s key u sought) in
    let above = first.least (key_first u) (sought_above s us ks key u is held sought) (is.same u ∙ held) in
    true≢false (sym (own_key key k.key (between_key s key k (key_first u) own first.low above)) ∙ other))))))
