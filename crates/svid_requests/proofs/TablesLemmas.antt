-- The table after a step: what is found in it, and that it stays in order.
use Rattle.std.proofs.Common.{◌≡◌, ℕ, ◌≤◌, arith, Bool, true, false, cond, List, [], ◌∷◌, refl, sym, ap, ◌∙◌, subst, Option, Some, None, is_some}
use Rattle.std.specs.List.{AllByRecursion}
use Rattle.std.specs.List.Sorted.{IsStrictlySortedBy}
use Rattle.std.specs.Map.{keys_of, set_value}
use Rattle.std.specs.BTreeMap.{is_at}
use Rattle.std.specs.Cmp.{IsTotalOrder}
use Rattle.std.specs.Option.{option_map}
use Rattle.std.specs.declared.cmp.Ordering.{Ordering}
use Rattle.std.specs.declared.cmp.Ordering.TheVariants.{Less}
use Rattle.std.specs.Ordering.{nat_cmp, is_eq}
use Rattle.std.proofs.lemmas.Cmp.{ranked, nat_cmp_total, tied_itself, nat_list_cmp_total, on_total, then_total}
use Rattle.std.proofs.lemmas.Map.{keys-set_value}
use Rattle.std.proofs.lemmas.Map.Entries.{lookup_head}
use Rattle.std.proofs.lemmas.Map.Lookups.{exact_unsigned}
use Rattle.svid_requests.specs.declared.request.Request.{Request}
use Rattle.svid_requests.specs.declared.event.Event.{Event}
use Rattle.svid_requests.specs.declared.event.Event.TheVariants.{Judged, Wrote, Send, Found, Leave, Overdue}
use Rattle.svid_requests.specs.declared.stage.Stage.{Stage}
use Rattle.svid_requests.specs.declared.stage.Stage.TheVariants.{Judging, Claiming, Behind, Again}
use Rattle.svid_requests.specs.declared.plan.Plan.{Plan}
use Rattle.svid_requests.specs.declared.plan.Plan.TheVariants.{Stay, Go, Part}
use Rattle.svid_requests.specs.declared.waiter.Waiter.{Waiter}
use Rattle.svid_requests.specs.Lines.{first_of, key_cmp, waiter_cmp}
use Rattle.svid_requests.specs.Tables.{Table, at_stage, find, first, followed, gone, hand_to, joined, joins, left_at, let_in, next_after, numbered, parted, restaged, subject, turn, turned, without}
use Rattle.svid_requests.proofs.EntriesLemmas.{is_equal, lookup_inserted, lookup_removed, lookup_set, sorted_entries_inserted, sorted_entries_removed, sorted_inserted, sorted_removed}
use Rattle.svid_requests.proofs.PlansLemmas.{IsAbout}

-- The request that an event is about.

numbered_is : (n : ℕ) (requests : List (ℕ × Request)) (o : Option Request) (p : ℕ × Request) → find n requests ≡ o → numbered n o ≡ Some p → (find p.0 requests ≡ Some p.1) × (n ≡ p.0)
numbered_is n requests None p is some = absurd cc
numbered_is n requests (Some r) p is some =
    let same : (n, r) ≡ p = cc in
    subst (λ (q : ℕ × Request). (find q.0 requests ≡ Some q.1) × (n ≡ q.0)) same (is, refl)

first_is : (requests : List (ℕ × Request)) (p : ℕ × Request) → first requests ≡ Some p → find p.0 requests ≡ Some p.1
first_is [] p some = absurd cc
first_is (e ∷ es) p some =
    let same : e ≡ p = cc in
    subst (λ (q : ℕ × Request). find q.0 (e ∷ es) ≡ Some q.1) same (lookup_head (is_at (nat_cmp e.0)) e es (ap is_eq (tied_itself nat_cmp_total e.0)))

pub subject_is : (e : Event) (requests : List (ℕ × Request)) (p : ℕ × Request) → subject e requests ≡ Some p → (find p.0 requests ≡ Some p.1) × IsAbout e p.0
subject_is (Judged n j) requests p some = numbered_is n requests (find n requests) p refl some
subject_is (Wrote n ok) requests p some = numbered_is n requests (find n requests) p refl some
subject_is (Send n) requests p some = numbered_is n requests (find n requests) p refl some
subject_is (Found n j) requests p some = numbered_is n requests (find n requests) p refl some
subject_is (Leave n) requests p some = numbered_is n requests (find n requests) p refl some
subject_is Overdue requests p some = (first_is requests p some, tt)

-- What is found after a step.

-- one number or not
abbrev pub one : ℕ → ℕ → Bool
one n q = is_eq (nat_cmp n q)

pub one_is : (n q : ℕ) → one n q ≡ true → n ≡ q
one_is n q is = exact_unsigned n q (is_equal (nat_cmp n q) is)

pub one_itself : (n : ℕ) → one n n ≡ true
one_itself n = ap is_eq (tied_itself nat_cmp_total n)

find_restaged : (n q : ℕ) (r : Request) (g : Stage) (es : List (ℕ × Request)) → find n es ≡ Some r → find q (restaged n r g es) ≡ cond (one n q) (Some (at_stage g r)) (find q es)
find_restaged n q r g es is = lookup_set nat_cmp_total es n q (at_stage g r) (ap is_some is)

-- the request of a number whose turn comes, or that of no number
abbrev pub turned_at : Option ℕ → ℕ → Option Request → Option Request
turned_at None q o = o
turned_at (Some w) q o = cond (one w q) (option_map (λ r. at_stage (turned r.stage) r) o) o

find_turn : (w q : ℕ) (es : List (ℕ × Request)) → find q (turn w (find w es) es) ≡ turned_at (Some w) q (find q es)
find_turn w q es = by_found (find w es) refl
  where
    here : (o : Option Request) (b : Bool) → one w q ≡ b → find w es ≡ o → cond b (option_map (λ r. at_stage (turned r.stage) r) o) (find q es) ≡ cond b (option_map (λ r. at_stage (turned r.stage) r) (find q es)) (find q es)
    here o true same is = ap (option_map (λ r. at_stage (turned r.stage) r)) (sym is ∙ ap (λ k. find k es) (one_is w q same))
    here o false same is = refl

    none : (b : Bool) → one w q ≡ b → find w es ≡ None → find q es ≡ cond b None (find q es)
    none true same is = ap (λ k. find k es) (sym (one_is w q same)) ∙ is
    none false same is = refl

    by_found : (o : Option Request) → find w es ≡ o → find q (turn w o es) ≡ turned_at (Some w) q (find q es)
    by_found None is = none (one w q) refl is ∙ here None (one w q) refl is
    by_found (Some r) is = find_restaged w q r (turned r.stage) es is ∙ here (Some r) (one w q) refl is

pub find_handed : (key : List ℕ) (o : Option ℕ) (t : Table) (q : ℕ) → find q (hand_to key o t).requests ≡ turned_at o q (find q t.requests)
find_handed key None t q = refl
find_handed key (Some w) t q = find_turn w q t.requests

find_left : (n : ℕ) (g : Stage) (t : Table) (q : ℕ) → find q (left_at n g (without n t)).requests ≡ turned_at (next_after g t) q (find q (without n t).requests)
find_left n (Claiming u) t q = find_handed u.key (first_of u.key t.lines) (without n t) q
find_left n (Again u) t q = find_handed u.key (first_of u.key t.lines) (without n t) q
find_left n g t q = refl

-- the numbers of the requests stand in order
abbrev pub NumbersRise : Table → Type 0
NumbersRise t = IsStrictlySortedBy nat_cmp (keys_of t.requests)

pub find_without : (n : ℕ) (t : Table) (q : ℕ) → NumbersRise t → find q (without n t).requests ≡ cond (one n q) None (find q t.requests)
find_without n t q up = lookup_removed nat_cmp_total t.requests n q up

pub find_parted : (n : ℕ) (r : Request) (t : Table) (q : ℕ) → NumbersRise t → find q (parted n r t).requests ≡ turned_at (next_after r.stage t) q (cond (one n q) None (find q t.requests))
find_parted n r t q up = find_left n r.stage t q ∙ ap (turned_at (next_after r.stage t) q) (find_without n t q up)

joins_keeps : (n : ℕ) (g : Stage) (t : Table) → (joins n g t).requests ≡ t.requests
joins_keeps n Judging t = refl
joins_keeps n g t = refl

pub joined_keeps : (n : ℕ) (was g : Stage) (t : Table) → (joined n was g t).requests ≡ t.requests
joined_keeps n Judging g t = joins_keeps n g t
joined_keeps n was g t = refl

pub find_gone : (n : ℕ) (r : Request) (g : Stage) (t : Table) (q : ℕ) → find n t.requests ≡ Some r → find q (gone n r g t).requests ≡ cond (one n q) (Some (at_stage g r)) (find q t.requests)
find_gone n r g t q is = ap (λ es. find q (restaged n r g es)) (joined_keeps n r.stage g t) ∙ find_restaged n q r g t.requests is

pub find_let_in : (n deadline : ℕ) (t : Table) (q : ℕ) → find q (let_in n deadline t).requests ≡ cond (one q n) (Some (record { deadline = deadline; stage = Judging })) (find q t.requests)
find_let_in n deadline t q = lookup_inserted nat_cmp_total t.requests n q (record { deadline = deadline; stage = Judging })

below_found : (a n : ℕ) (es : List (ℕ × Request)) (r : Request) → AllByRecursion (λ k. nat_cmp a k ≡ Less) (keys_of es) → find n es ≡ Some r → a ≤ n
below_found a n [] r below found = absurd cc
below_found a n (e ∷ es) r below found = by_place (one n e.0) refl found (below_found a n es r below.1)
  where
    by_place : (b : Bool) → one n e.0 ≡ b → cond b (Some e.1) (find n es) ≡ Some r → (find n es ≡ Some r → a ≤ n) → a ≤ n
    by_place true same found later =
        let is = one_is n e.0 same in
        let less = ranked a e.0 Less (sym below.0) in
        omega arith
    by_place false apart found later = later found

-- the first request has the least number
pub first_is_least : (es : List (ℕ × Request)) (p : ℕ × Request) (n : ℕ) (r : Request) → IsStrictlySortedBy nat_cmp (keys_of es) → first es ≡ Some p → find n es ≡ Some r → p.0 ≤ n
unfolding IsStrictlySortedBy
first_is_least [] p n r up is found = absurd cc
first_is_least (e ∷ es) p n r up is found =
    let same : e ≡ p = cc in
    subst (λ (q : ℕ × Request). q.0 ≤ n) same (by_place (one n e.0) refl found)
  where
    by_place : (b : Bool) → one n e.0 ≡ b → cond b (Some e.1) (find n es) ≡ Some r → e.0 ≤ n
    by_place true same found = let is = one_is n e.0 same in omega arith
    by_place false apart found = below_found e.0 n es r up.0 found

-- What holds of each request, by its number.

abbrev pub Each : (ℕ → Request → Type 0) → Table → Type 0
Each P t = (q : ℕ) (r : Request) → find q t.requests ≡ Some r → P q r

each_at : (P : ℕ → Request → Type 0) (n q : ℕ) (x s : Request) (o : Option Request) (b : Bool) → one n q ≡ b → cond b (Some x) o ≡ Some s → P n x → (o ≡ Some s → P q s) → P q s
each_at P n q x s o true is found here apart =
    let same : x ≡ s = cc in
    subst (P q) same (subst (λ k. P k x) (one_is n q is) here)
each_at P n q x s o false is found here apart = apart found

each_turned : (P : ℕ → Request → Type 0) (q : ℕ) (s : Request) (next : Option ℕ) (o : Option Request) → ((r : Request) → P q r → P q (at_stage (turned r.stage) r)) → turned_at next q o ≡ Some s → ((r : Request) → o ≡ Some r → P q r) → P q s
each_turned P q s None o turns found all = all s found
each_turned P q s (Some w) o turns found all = by_place o (one w q) found all
  where
    by_place : (o : Option Request) (b : Bool) → cond b (option_map (λ r. at_stage (turned r.stage) r) o) o ≡ Some s → ((r : Request) → o ≡ Some r → P q r) → P q s
    by_place o false found all = all s found
    by_place None true found all = absurd cc
    by_place (Some r) true found all = let same : at_stage (turned r.stage) r ≡ s = cc in subst (P q) same (turns r (all r refl))

pub each_followed : (P : ℕ → Request → Type 0) (n : ℕ) (r : Request) (p : Plan) (t : Table) → NumbersRise t → find n t.requests ≡ Some r → Each P t → ((q : ℕ) (s : Request) → P q s → P q (at_stage (turned s.stage) s)) → ((g : Stage) → p ≡ Go g → P n (at_stage g r)) → Each P (followed n r p t)
each_followed P n r Stay t up is all turns goes = all
each_followed P n r (Go g) t up is all turns goes = λ q s found. each_at P n q (at_stage g r) s (find q t.requests) (one n q) refl (sym (find_gone n r g t q is) ∙ found) (goes g refl) (all q s)
each_followed P n r (Part v) t up is all turns goes = λ q s found. each_turned P q s (next_after r.stage t) (cond (one n q) None (find q t.requests)) (turns q) (sym (find_parted n r t q up) ∙ found) (λ x. apart q x (one n q))
  where
    apart : (q : ℕ) (x : Request) (b : Bool) → cond b None (find q t.requests) ≡ Some x → P q x
    apart q x true found = absurd cc
    apart q x false found = all q x found

pub each_let_in : (P : ℕ → Request → Type 0) (n deadline : ℕ) (t : Table) → Each P t → P n (record { deadline = deadline; stage = Judging }) → Each P (let_in n deadline t)
each_let_in P n deadline t all new q s found = by_place (one q n) refl (sym (find_let_in n deadline t q) ∙ found)
  where
    by_place : (b : Bool) → one q n ≡ b → cond b (Some (record { deadline = deadline; stage = Judging })) (find q t.requests) ≡ Some s → P q s
    by_place true is found =
        let same : record { deadline = deadline; stage = Judging } ≡ s = cc in
        subst (P q) same (subst (λ k. P k (record { deadline = deadline; stage = Judging })) (sym (one_is q n is)) new)
    by_place false is found = all q s found

-- The table stays in order.

pub key_cmp_total : IsTotalOrder key_cmp
key_cmp_total = nat_list_cmp_total

pub waiter_cmp_total : IsTotalOrder waiter_cmp
waiter_cmp_total = then_total (on_total (λ (w : Waiter). w.key) nat_list_cmp_total) (on_total (λ (w : Waiter). w.number) nat_cmp_total)

pub record InOrder (t : Table) : Type 0 where
  pub numbers : NumbersRise t
  pub holders : IsStrictlySortedBy key_cmp (keys_of t.holders)
  pub lines : IsStrictlySortedBy waiter_cmp t.lines

pub none_in_order : InOrder (record { requests = []; holders = []; lines = [] })
unfolding IsStrictlySortedBy
none_in_order = record { numbers = tt; holders = tt; lines = tt }

set_rises : {K X : Type 0} (R : K → K → Ordering) (test : K → Bool) (es : List (K × X)) (x : X) → IsStrictlySortedBy R (keys_of es) → IsStrictlySortedBy R (keys_of (set_value test es x))
set_rises R test es x up = subst (IsStrictlySortedBy R) (sym (keys-set_value test es x)) up

turn_rises : (w : ℕ) (o : Option Request) (es : List (ℕ × Request)) → IsStrictlySortedBy nat_cmp (keys_of es) → IsStrictlySortedBy nat_cmp (keys_of (turn w o es))
turn_rises w None es up = up
turn_rises w (Some r) es up = set_rises nat_cmp (is_at (nat_cmp w)) es (at_stage (turned r.stage) r) up

handed_in_order : (key : List ℕ) (o : Option ℕ) (t : Table) → InOrder t → InOrder (hand_to key o t)
handed_in_order key None t up = record { numbers = up.numbers; holders = sorted_entries_removed key_cmp (is_at (key_cmp key)) t.holders up.holders; lines = up.lines }
handed_in_order key (Some w) t up = record {
  numbers = turn_rises w (find w t.requests) t.requests up.numbers;
  holders = set_rises key_cmp (is_at (key_cmp key)) t.holders w up.holders;
  lines = sorted_removed waiter_cmp (is_at (waiter_cmp (record { key = key; number = w }))) t.lines up.lines;
}

left_in_order : (n : ℕ) (g : Stage) (t : Table) → InOrder t → InOrder (left_at n g t)
left_in_order n (Claiming u) t up = handed_in_order u.key (first_of u.key t.lines) t up
left_in_order n (Behind u) t up = record { numbers = up.numbers; holders = up.holders; lines = sorted_removed waiter_cmp (is_at (waiter_cmp (record { key = u.key; number = n }))) t.lines up.lines }
left_in_order n (Again u) t up = handed_in_order u.key (first_of u.key t.lines) t up
left_in_order n g t up = up

pub without_in_order : (n : ℕ) (t : Table) → InOrder t → InOrder (without n t)
without_in_order n t up = record { numbers = sorted_entries_removed nat_cmp (is_at (nat_cmp n)) t.requests up.numbers; holders = up.holders; lines = up.lines }

joins_in_order : (n : ℕ) (g : Stage) (t : Table) → InOrder t → InOrder (joins n g t)
joins_in_order n (Claiming u) t up = record { numbers = up.numbers; holders = sorted_entries_inserted key_cmp_total t.holders u.key n up.holders; lines = up.lines }
joins_in_order n (Behind u) t up = record { numbers = up.numbers; holders = up.holders; lines = sorted_inserted waiter_cmp_total t.lines (record { key = u.key; number = n }) up.lines }
joins_in_order n g t up = up

joined_in_order : (n : ℕ) (was g : Stage) (t : Table) → InOrder t → InOrder (joined n was g t)
joined_in_order n Judging g t up = joins_in_order n g t up
joined_in_order n was g t up = up

pub followed_in_order : (n : ℕ) (r : Request) (p : Plan) (t : Table) → InOrder t → InOrder (followed n r p t)
followed_in_order n r Stay t up = up
followed_in_order n r (Go g) t up =
    let still = joined_in_order n r.stage g t up in
    record { numbers = set_rises nat_cmp (is_at (nat_cmp n)) (joined n r.stage g t).requests (at_stage g r) still.numbers; holders = still.holders; lines = still.lines }
followed_in_order n r (Part v) t up = left_in_order n r.stage (without n t) (without_in_order n t up)

pub let_in_in_order : (n deadline : ℕ) (t : Table) → InOrder t → InOrder (let_in n deadline t)
let_in_in_order n deadline t up = record { numbers = sorted_entries_inserted nat_cmp_total t.requests n (record { deadline = deadline; stage = Judging }) up.numbers; holders = up.holders; lines = up.lines }
