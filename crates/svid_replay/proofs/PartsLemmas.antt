use Rattle.std.proofs.Common.{◌≡◌, ℕ, ◌<◌, ◌≤◌, ◌-◌, ◌*◌, ◌/◌, ◌^◌, zero, suc, true, false, List, [], ◌∷◌, ◌++◌, length, take, drop, get_or, refl, sym, ◌∙◌, ap, arith, nat_lt, Option, None, Some, subst, All}
use Rattle.std.proofs.lemmas.Bool.Decides.{nat_tests}
use Rattle.std.proofs.lemmas.List.{length-take-le, length-drop, take-append-drop, append_assoc, append-nil, length-take}
use Rattle.std.proofs.lemmas.List.Elements.{All-nil, All-cons, recursion_from_All, All-contains, Contains-push}
use Rattle.std.specs.List.{AllByRecursion, flat_map}
use Rattle.std.specs.List.Sorted.{IsStrictlySortedBy}
use Rattle.std.specs.Ordering.{is_lt}
use Rattle.std.specs.declared.cmp.Ordering.TheVariants.{Less}
use Rattle.svid_replay.specs.Uses.{Uses, uses_in}
use Rattle.svid_replay.specs.declared.token_use.Use.{Use}
use Rattle.svid_replay.specs.Batches.{BatchData, AllGood, IsBatch, flaw, is_after}
use Rattle.svid_replay.specs.Parts.{full_batches, cut, AreParts, CutGivesParts, parts_of, join_all, PartsAreBatches, SamePartsSameRecord, PartsGiveRecord}
use Rattle.svid_replay.specs.Records.{State, IsRecord, IsHeldAt, join, state_of}
use Rattle.svid_replay.specs.Sets.{rising}
use Rattle.svid_replay.specs.Use.{use_cmp, IsRising, IsUse}
use Rattle.svid_replay.proofs.ListLemmas.{each_take, each_drop, each_weaker}
use Rattle.svid_replay.proofs.UsesLemmas.{held_in_rising, uses_in-rising}
use Rattle.svid_replay.proofs.RecordsLemmas.{join_lists, join_new}
use Rattle.svid_replay.proofs.SetsLemmas.{rising_rises}

-- rising uses that a record may hold are a batch
rises_take : (n : ℕ) (us : List Use) → IsRising us → IsRising (take n us)
unfolding IsStrictlySortedBy
rises_take zero us up = tt
rises_take (suc n) [] up = tt
rises_take (suc n) (u ∷ us) up = (each_take _ n us up.0, rises_take n us up.1)

rises_drop : (n : ℕ) (us : List Use) → IsRising us → IsRising (drop n us)
unfolding IsStrictlySortedBy
rises_drop zero us up = up
rises_drop (suc n) [] up = tt
rises_drop (suc n) (u ∷ us) up = rises_drop n us up.1

no_flaw_held : (m : ℕ) (before : Option Use) (u : Use) → IsHeldAt m u → is_after before u ≡ true → flaw m before u ≡ None
unfolding flaw
no_flaw_held m before u held after =
    let live : nat_lt m u.exp ≡ true = let later : m < u.exp = held.live in grind (arith, nat_tests) in
    let made : nat_lt m u.at ≡ false = let by : u.at ≤ m = held.made in grind (arith, nat_tests) in
    rw (live, made, after)

good_behind : (m : ℕ) (before : Use) (us : List Use) → AllByRecursion (λ u. use_cmp before u ≡ Less) us → IsRising us → AllByRecursion (IsHeldAt m) us → AllGood m (Some before) us
unfolding IsStrictlySortedBy
good_behind m before [] above up held = tt
good_behind m before (u ∷ us) above up held = (no_flaw_held m (Some before) u held.0 (ap is_lt above.0), good_behind m u us up.0 up.1 held.1)

good : (m : ℕ) (us : List Use) → IsRising us → AllByRecursion (IsHeldAt m) us → AllGood m None us
unfolding IsStrictlySortedBy
good m [] up held = tt
good m (u ∷ us) up held = (no_flaw_held m None u held.0 refl, good_behind m u us up.0 up.1 held.1)

pub held_is_batch : (m : ℕ) (us : List Use) → m < 2 ^ 64 → length us ≤ 65536 → IsRising us → AllByRecursion (IsHeldAt m) us → IsBatch (record { moment = m; uses = us })
held_is_batch m us fits few up held = record { few = few; moment = fits; fields = each_weaker (IsHeldAt m) IsUse (λ u h. h.fields) us held; good = good m us up held }

-- how uses are cut
pub cut_few : (m : ℕ) (us : List Use) → length us ≤ 65536 → cut m us ≡ record { moment = m; uses = us } ∷ []
unfolding cut full_batches
cut_few m us few = let none : (length us - 1) / 65536 ≡ 0 = omega arith in ap (λ n. full_batches 65536 n m us) none

pub cut_many : (m : ℕ) (us : List Use) → 65536 < length us → cut m us ≡ record { moment = m; uses = take 65536 us } ∷ cut m (drop 65536 us)
unfolding cut full_batches
cut_many m us many =
    let one_less : (length us - 1) / 65536 ≡ suc ((length (drop 65536 us) - 1) / 65536) = omega (arith, length-drop 65536 us) in
    ap (λ n. full_batches 65536 n m us) one_less

-- what a loop has cut off when these uses are left
pub record HasCut (m : ℕ) (us rest : List Use) (batches : List BatchData) : Type 0 where
  pub up : IsRising rest
  pub held : AllByRecursion (IsHeldAt m) rest
  pub value : batches ++ cut m rest ≡ cut m us

-- what a turn of the loop cuts off, and what it leaves
pub record IsTurn (rest full others : List Use) : Type 0 where
  pub many : 65536 < length rest
  pub front : full ≡ take 65536 rest
  pub left : others ≡ drop 65536 rest

pub cuts_more : (m : ℕ) (us rest full others : List Use) (batches items : List BatchData) (b : BatchData) → HasCut m us rest batches → IsTurn rest full others → b ≡ record { moment = m; uses = full } → items ≡ batches ++ b ∷ [] → HasCut m us others items
cuts_more m us rest full others batches items b so_far turn is pushed =
    rw (pushed, is, turn.front, turn.left) (record {
      up = rises_drop 65536 rest so_far.up;
      held = each_drop (IsHeldAt m) 65536 rest so_far.held;
      value = append_assoc batches (record { moment = m; uses = take 65536 rest } ∷ []) (cut m (drop 65536 rest)) ∙ ap (λ bs. batches ++ bs) (sym (cut_many m rest turn.many)) ∙ so_far.value;
    })

pub full_is_batch : (m : ℕ) (us rest full others : List Use) (batches : List BatchData) → m < 2 ^ 64 → HasCut m us rest batches → IsTurn rest full others → IsBatch (record { moment = m; uses = full })
full_is_batch m us rest full others batches fits so_far turn =
    let many : 65536 < length rest = turn.many in
    rw turn.front (held_is_batch m (take 65536 rest) fits (omega (arith, length-take-le 65536 rest (omega arith))) (rises_take 65536 rest so_far.up) (each_take (IsHeldAt m) 65536 rest so_far.held))

pub last_is_batch : (m : ℕ) (us rest last : List Use) (batches : List BatchData) → m < 2 ^ 64 → HasCut m us rest batches → length rest ≤ 65536 → last ≡ rest → IsBatch (record { moment = m; uses = last })
last_is_batch m us rest last batches fits so_far few e = rw e (held_is_batch m rest fits few so_far.up so_far.held)

pub cuts_last : (m : ℕ) (us rest last : List Use) (batches items : List BatchData) (b : BatchData) → HasCut m us rest batches → length rest ≤ 65536 → last ≡ rest → b ≡ record { moment = m; uses = last } → items ≡ batches ++ b ∷ [] → items ≡ cut m us
cuts_last m us rest last batches items b so_far few e is pushed =
    rw (pushed, is, e) (ap (λ bs. batches ++ bs) (sym (cut_few m rest few)) ∙ so_far.value)

-- the sizes of full batches and of the rest
full_cut : (n m : ℕ) (us : List Use) → length us ≤ 65536 * suc n → (0 < n → 65536 * n < length us) → AreParts m us (full_batches 65536 n m us)
unfolding full_batches
full_cut zero m us few many = record {
  full = [];
  last = record { moment = m; uses = us };
  parts = refl;
  whole = append-nil us;
  moments = All-cons (λ b. b.moment ≡ m) _ [] refl (All-nil _);
  sizes = All-nil _;
  few = omega arith;
  some = λ h. h;
}
full_cut (suc n) m us few many =
    let more : 65536 * suc n < length us = many (omega arith) in
    let first : length (take 65536 us) ≡ 65536 = length-take-le 65536 us (omega arith) in
    let rest : length (drop 65536 us) ≡ length us - 65536 = length-drop 65536 us in
    let cut = full_cut n m (drop 65536 us) (omega arith) (λ _. omega arith) in
    record {
      full = record { moment = m; uses = take 65536 us } ∷ cut.full;
      last = cut.last;
      parts = ap (λ bs. record { moment = m; uses = take 65536 us } ∷ bs) cut.parts;
      whole = ap (λ xs. take 65536 us ++ xs) cut.whole ∙ take-append-drop 65536 us;
      moments = All-cons (λ b. b.moment ≡ m) _ _ refl cut.moments;
      sizes = All-cons (λ b. length b.uses ≡ 65536) _ _ first cut.sizes;
      few = cut.few;
      some = λ _. cut.some (omega arith);
    }

pub cut_gives_parts : CutGivesParts
unfolding cut
cut_gives_parts m us = full_cut ((length us - 1) / 65536) m us (omega arith) (λ some. omega arith)

-- a record's uses
pub each_held : (r : State) → IsRecord r → AllByRecursion (IsHeldAt r.moment) (rising r.uses)
each_held r is = recursion_from_All (IsHeldAt r.moment) (rising r.uses) (λ k d h. is.each (get_or (rising r.uses) k d) (held_in_rising r.uses k d h))

full_batches_are : (n m : ℕ) (us : List Use) → m < 2 ^ 64 → length us ≤ 65536 * suc n → IsRising us → AllByRecursion (IsHeldAt m) us → AllByRecursion IsBatch (full_batches 65536 n m us)
unfolding full_batches
full_batches_are zero m us fits few up held = (held_is_batch m us fits (omega arith) up held, tt)
full_batches_are (suc n) m us fits few up held = (
  held_is_batch m (take 65536 us) fits (omega (arith, length-take 65536 us)) (rises_take 65536 us up) (each_take (IsHeldAt m) 65536 us held),
  full_batches_are n m (drop 65536 us) fits (omega (arith, length-drop 65536 us)) (rises_drop 65536 us up) (each_drop (IsHeldAt m) 65536 us held),
)

-- each part of a record is a batch
pub parts_are_batches : PartsAreBatches
unfolding cut
parts_are_batches r is = full_batches_are ((length (rising r.uses) - 1) / 65536) r.moment (rising r.uses) is.moment (omega arith) (rising_rises use_cmp r.uses) (each_held r is)

-- what the parts tell
moment_told : (m n : ℕ) (us vs : List Use) → cut m us ≡ cut n vs → m ≡ n
moment_told m n us vs e =
    let a = cut_gives_parts m us in
    let b = cut_gives_parts n vs in
    let in_a : All (λ c. c.moment ≡ m) (a.full ++ a.last ∷ []) = subst (All (λ c. c.moment ≡ m)) a.parts a.moments in
    let in_b : All (λ c. c.moment ≡ n) (a.full ++ a.last ∷ []) = subst (All (λ c. c.moment ≡ n)) (sym e ∙ a.parts) b.moments in
    sym (All-contains (λ c. c.moment ≡ m) (a.full ++ a.last ∷ []) a.last in_a (Contains-push a.full a.last)) ∙ All-contains (λ c. c.moment ≡ n) (a.full ++ a.last ∷ []) a.last in_b (Contains-push a.full a.last)

uses_told : (m n : ℕ) (us vs : List Use) → cut m us ≡ cut n vs → us ≡ vs
uses_told m n us vs e = sym (cut_gives_parts m us).whole ∙ ap (flat_map (λ (b : BatchData). b.uses)) e ∙ (cut_gives_parts n vs).whole

-- records with the same parts are the same
pub same_parts_same_record : SamePartsSameRecord
same_parts_same_record a b e =
    let moment = moment_told a.moment b.moment (rising a.uses) (rising b.uses) e in
    let uses = sym (uses_in-rising a.uses) ∙ ap uses_in (uses_told a.moment b.moment (rising a.uses) (rising b.uses) e) ∙ uses_in-rising b.uses in
    λ i. record { moment = moment i; uses = uses i }

-- a record joined with batches of one moment
pub join_all-lists : (old : State) (m : ℕ) (front : List Use) (bs : List BatchData) → AllByRecursion (λ b. b.moment ≡ m) bs → join_all (join old (state_of m front)) bs ≡ join old (state_of m (front ++ flat_map (λ b. b.uses) bs))
join_all-lists old m front [] all = ap (λ us. join old (state_of m us)) (sym (append-nil front))
join_all-lists old m front (b ∷ bs) all =
    ap (λ n. join_all (join (join old (state_of m front)) (state_of n b.uses)) bs) all.0
    ∙ ap (λ r. join_all r bs) (join_lists old m front b.uses)
    ∙ join_all-lists old m (front ++ b.uses) bs all.1
    ∙ ap (λ us. join old (state_of m us)) (append_assoc front b.uses (flat_map (λ b. b.uses) bs))

no_end : {X : Type 0} (xs : List X) (x : X) → [] ≡ xs ++ x ∷ [] → ⊥
no_end [] x e = cc
no_end (y ∷ ys) x e = cc

pub join_all-one : (old : State) (m : ℕ) (bs : List BatchData) (us : List Use) → AreParts m us bs → join_all old bs ≡ join old (state_of m us)
join_all-one old m [] us is = absurd (no_end is.full is.last is.parts)
join_all-one old m (b ∷ bs) us is =
    let all = recursion_from_All (λ (c : BatchData). c.moment ≡ m) (b ∷ bs) is.moments in
    ap (λ n. join_all (join old (state_of n b.uses)) bs) all.0 ∙ join_all-lists old m b.uses bs all.1 ∙ ap (λ xs. join old (state_of m xs)) is.whole

-- a new record joined with all parts of a record is that record
pub parts_give_record : PartsGiveRecord
parts_give_record r is =
    join_all-one (state_of 0 []) r.moment (parts_of r) (rising r.uses) (cut_gives_parts r.moment (rising r.uses))
    ∙ ap (λ (s : Uses). join (state_of 0 []) (record { moment = r.moment; uses = s })) (uses_in-rising r.uses) ∙ join_new r is
