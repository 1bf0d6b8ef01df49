use Rattle.std.proofs.Common.{◌≡◌, ℕ, ◌<◌, Bool, true, false, List, [], ◌∷◌, ◌++◌, max, refl, sym, ◌∙◌, ap, arith, append-nil}
use Rattle.std.proofs.Common.{◌+◌, ◌≤◌, ◌⊎◌, inl, inr, length, take, get_or, add-one, append_assoc, subst, Option, Some, None}
use Rattle.std.proofs.lemmas.List.Elements.{Contains-append_cases, Contains-append_left, Contains-append_right, Contains-push, Contains-push_cases}
use Rattle.std.proofs.lemmas.List.Folds.{list_any_at}
use Rattle.std.proofs.Math.Seq.{take-suc}
use Rattle.svid_wire.specs.Messages.{batches_of}
use Rattle.svid_wire.specs.declared.message.Message.{Message}
use Rattle.svid_wire.proofs.MessagesLemmas.{batches_of-append}
use Rattle.std.specs.Prelude.{nat_lt, ◌&&◌, ◌||◌, not, if◌then◌else◌}
use Rattle.std.specs.List.{Contains, flat_map, list_any}
use Rattle.std.specs.Ordering.{eq_by_cmp}
use Rattle.std.proofs.lemmas.Bool.Decides.{nat_tests}
use Rattle.std.proofs.lemmas.Grind.{flat_map-append}
use Rattle.svid_replay.specs.declared.token_use.Use.{Use}
use Rattle.svid_replay.specs.Use.{IsUse, use_cmp}
use Rattle.std.specs.List.{AllByRecursion}
use Rattle.svid_replay.specs.declared.flaw.Flaw.TheVariants.{Expired, Future, Order}
use Rattle.svid_replay.specs.Batches.{AllGood, BatchData, IsBatch, flaw, is_after}
use Rattle.svid_replay.specs.Parts.{join_all, parts_of}
use Rattle.svid_replay.specs.Sets.{holds}
use Rattle.svid_replay.specs.Uses.{Uses, uses_in, no_uses, live}
use Rattle.svid_replay.specs.Records.{IsHeldAt, IsRecord, State, join, state_of, batch_state}
use Rattle.svid_replay.proofs.UsesLemmas.{holds-uses_in, holds-live, same_uses, uses_in-filter}
use Rattle.svid_replay.proofs.ListLemmas.{found}
use Rattle.svid_replay.proofs.PartsLemmas.{parts_are_batches, parts_give_record}
use Rattle.svid_replay.proofs.RecordsLemmas.{is_join, join_assoc, join_closed, join_comm, join_new, new_is_record}
use Rattle.svid_replay.proofs.TestsLemmas.{equal}
use Rattle.svid_replay.proofs.UseLemmas.{use_exact}
use Rattle.svid_wire.specs.RecordText.{record_text}
use Rattle.svid_share.specs.Inputs.{all_of}
use Rattle.svid_share.specs.Joined.{JoinedByWhich, JoinedFromNothing, JoinedIsRecord, JoinedOneByOne, PartsComeToRecord, PartsStandForBatches, greatest, joined, raised_to}
use Rattle.svid_share.specs.Merge.{MergedByWhich}
use Rattle.svid_share.specs.Summary.{SummarizedByWhich}
use Rattle.svid_replay.specs.Buckets.{summary_of}
use Rattle.svid_wire.specs.SummaryText.{summary_text}

greatest-push : (batches : List BatchData) (batch : BatchData) → greatest (batches ++ batch ∷ []) ≡ max (greatest batches) batch.moment
greatest-push [] batch = omega arith
greatest-push (first ∷ batches) batch = let rest = greatest-push batches batch in omega arith

or_assoc : (a b c : Bool) → (a || (b || c)) ≡ ((a || b) || c)
or_assoc true b c = refl
or_assoc false b c = refl

list_any-append : (test : Use → Bool) (us vs : List Use) → list_any test (us ++ vs) ≡ (list_any test us || list_any test vs)
list_any-append test [] vs = refl
list_any-append test (u ∷ us) vs = ap (λ b. test u || b) (list_any-append test us vs) ∙ or_assoc (test u) (list_any test us) (list_any test vs)

-- a use that expires after both moments expires after the first
later : (m n e : ℕ) (held more : Bool) → (nat_lt (max m n) e && (held || more)) ≡ (nat_lt (max m n) e && (more || (nat_lt m e && held)))
later m n e true true = grind (arith, nat_tests)
later m n e true false = grind (arith, nat_tests)
later m n e false true = grind (arith, nat_tests)
later m n e false false = grind (arith, nat_tests)

uses-push : (batches : List BatchData) (batch : BatchData) → flat_map (λ b. b.uses) (batches ++ batch ∷ []) ≡ flat_map (λ b. b.uses) batches ++ batch.uses
uses-push batches batch = flat_map-append (λ b. b.uses) batches (batch ∷ []) ∙ ap (λ r. flat_map (λ b. b.uses) batches ++ r) (append-nil batch.uses)

-- a use of the batches, or of one more batch
holds-push : (us vs : List Use) (m n : ℕ) (u : Use) → holds (live (uses_in (us ++ vs)) (max m n)) u ≡ (nat_lt (max m n) u.exp && (holds (uses_in vs) u || holds (live (uses_in us) m) u))
holds-push us vs m n u =
    holds-live (uses_in (us ++ vs)) (max m n) u
    ∙ ap (λ b. nat_lt (max m n) u.exp && b) (holds-uses_in (us ++ vs) u ∙ list_any-append (eq_by_cmp use_cmp u) us vs)
    ∙ later m n u.exp (list_any (eq_by_cmp use_cmp u) us) (list_any (eq_by_cmp use_cmp u) vs)
    ∙ sym (ap (λ b. nat_lt (max m n) u.exp && (b || holds (live (uses_in us) m) u)) (holds-uses_in vs u)
    ∙ ap (λ b. nat_lt (max m n) u.exp && (list_any (eq_by_cmp use_cmp u) vs || b)) (holds-live (uses_in us) m u ∙ ap (λ b. nat_lt m u.exp && b) (holds-uses_in us u)))

-- one more batch is joined to the record of the others
pub joined-push : (batches : List BatchData) (batch : BatchData) → joined (batches ++ batch ∷ []) ≡ join (joined batches) (batch_state batch)
unfolding joined
joined-push batches batch =
    is_join (joined batches) (batch_state batch) (joined (batches ++ batch ∷ [])) (greatest-push batches batch)
    (λ u. rw (greatest-push batches batch, uses-push batches batch) (holds-push (flat_map (λ b. b.uses) batches) batch.uses (greatest batches) batch.moment u))

-- the batches, joined one after the other to the record of earlier ones
pub joined_one_by_one : JoinedOneByOne
joined_one_by_one earlier [] = ap joined (sym (append-nil earlier))
joined_one_by_one earlier (b ∷ batches) = ap (λ r. join_all r batches) (sym (joined-push earlier b)) ∙ joined_one_by_one (earlier ++ b ∷ []) batches ∙ ap joined (append_assoc earlier (b ∷ []) batches)

-- the join of no batches is the record of moment 0 with no uses
pub joined_none : state_of 0 [] ≡ joined []
unfolding joined
joined_none = ap (λ (s : Uses). let r : State = record { moment = 0; uses = s } in r) (uses_in-filter (λ u. nat_lt 0 u.exp) [])

pub joined_from_nothing : JoinedFromNothing
joined_from_nothing batches = ap (λ r. join_all r batches) joined_none ∙ joined_one_by_one [] batches

-- joining goes on where it stopped
pub join_all-append : (r : State) (batches more : List BatchData) → join_all r (batches ++ more) ≡ join_all (join_all r batches) more
join_all-append r [] more = refl
join_all-append r (b ∷ batches) more = join_all-append (join r (batch_state b)) batches more

-- the batches of one more message
pub joins-message : (r : State) (messages : List Message) (i : ℕ) (d : Message) → i < length messages → join_all (join_all r (batches_of (take i messages))) (batches_of (get_or messages i d ∷ [])) ≡ join_all r (batches_of (take (i + 1) messages))
joins-message r messages i d within =
    let seen : take (i + 1) messages ≡ take i messages ++ get_or messages i d ∷ [] = rw (add-one i) (take-suc messages i d within) in
    sym (join_all-append r (batches_of (take i messages)) (batches_of (get_or messages i d ∷ []))) ∙ ap (join_all r) (sym (ap batches_of seen ∙ batches_of-append (take i messages) (get_or messages i d ∷ [])))

-- a use that nothing is wrong with is held at the moment
fine_is_held : (moment : ℕ) (before : Option Use) (u : Use) → IsUse u → flaw moment before u ≡ None → IsHeldAt moment u
unfolding flaw
fine_is_held moment before u fits fine = by (nat_lt moment u.exp) refl (nat_lt moment u.at) refl fine
  where
    by : (live : Bool) → nat_lt moment u.exp ≡ live → (future : Bool) → nat_lt moment u.at ≡ future → (if not live then Some Expired else if future then Some Future else if is_after before u then None else Some Order) ≡ None → IsHeldAt moment u
    by false _ future _ none = absurd cc
    by true _ true _ none = absurd cc
    by true later false made none = record { fields = fits; made = grind (arith, nat_tests); live = grind (arith, nat_tests) }

-- each use of a batch is held at its moment
each_held : (moment : ℕ) (before : Option Use) (us : List Use) → AllByRecursion IsUse us → AllGood moment before us → AllByRecursion (IsHeldAt moment) us
each_held moment before [] fields good = tt
each_held moment before (u ∷ us) fields good = (fine_is_held moment before u fields.0 good.0, each_held moment (Some u) us fields.1 good.1)

-- the content of a batch is a record
batch_is_record : (b : BatchData) → IsBatch b → IsRecord (batch_state b)
batch_is_record b is = record {
  moment = is.moment;
  each = λ u held. found (IsHeldAt b.moment) (eq_by_cmp use_cmp u) (IsHeldAt b.moment u) b.uses (each_held b.moment None b.uses is.fields is.good) (sym (holds-uses_in b.uses u) ∙ held) (λ v has same. subst (IsHeldAt b.moment) (sym (use_exact u v (equal (use_cmp u v) same))) has);
}

joins_record : (r : State) (batches : List BatchData) → IsRecord r → AllByRecursion IsBatch batches → IsRecord (join_all r batches)
joins_record r [] is all = is
joins_record r (b ∷ batches) is all = joins_record (join r (batch_state b)) batches (join_closed r (batch_state b) is (batch_is_record b all.0)) all.1

-- the join of batches is a record
pub joined_is_record : JoinedIsRecord
joined_is_record batches all = subst IsRecord (joined_from_nothing batches) (joins_record (state_of 0 []) batches (new_is_record no_uses refl) all)

-- the parts of a record join to that record
pub parts_come_to_record : PartsComeToRecord
parts_come_to_record r is = sym (joined_from_nothing (parts_of r)) ∙ parts_give_record r is

-- batches joined to a join may be joined to its second part
join_all-join : (a b : State) (batches : List BatchData) → join_all (join a b) batches ≡ join a (join_all b batches)
join_all-join a b [] = refl
join_all-join a b (x ∷ batches) = ap (λ r. join_all r batches) (join_assoc a b (batch_state x)) ∙ join_all-join a (join b (batch_state x)) batches

-- batches joined to a record give that record joined with their join
joins_joined : (r : State) (batches : List BatchData) → IsRecord r → join_all r batches ≡ join r (joined batches)
joins_joined r batches is =
    ap (λ s. join_all s batches) (sym (join_comm r (state_of 0 []) ∙ join_new r is))
    ∙ join_all-join r (state_of 0 []) batches
    ∙ ap (join r) (joined_from_nothing batches)

-- batches after others: the join of both
joined-append : (batches more : List BatchData) → AllByRecursion IsBatch batches → joined (batches ++ more) ≡ join (joined batches) (joined more)
joined-append batches more all = sym (joined_one_by_one batches more) ∙ joins_joined (joined batches) more (joined_is_record batches all)

pub parts_stand_for_batches : PartsStandForBatches
parts_stand_for_batches [] all = refl
parts_stand_for_batches (g ∷ groups) all =
    joined-append (parts_of (joined g)) (flat_map (λ batches. parts_of (joined batches)) groups) (parts_are_batches (joined g) (joined_is_record g all.0))
    ∙ ap (λ r. join r (joined (flat_map (λ batches. parts_of (joined batches)) groups))) (parts_come_to_record (joined g) (joined_is_record g all.0))
    ∙ ap (join (joined g)) (parts_stand_for_batches groups all.1)
    ∙ sym (joined-append g (flat_map (λ batches. batches) groups) all.0)

-- a thing among more is the first or among the others
among : {X : Type 0} (x : X) (xs : List X) (y : X) → Contains (x ∷ xs) y → (x ≡ y) ⊎ Contains xs y
among x xs y is = by (Contains-append_cases (x ∷ []) xs y is)
  where
    first : Contains [] y ⊎ (x ≡ y) → (x ≡ y) ⊎ Contains xs y
    first (inl none) = absurd (let no : none.0 < 0 = none.1 in omega arith)
    first (inr same) = inl same

    by : Contains (x ∷ []) y ⊎ Contains xs y → (x ≡ y) ⊎ Contains xs y
    by (inl one) = first (Contains-push_cases [] x y one)
    by (inr other) = inr other

first_is : {X : Type 0} (x : X) (xs : List X) → Contains (x ∷ xs) x
first_is x xs = Contains-append_left (x ∷ []) xs x (Contains-push [] x)

greatest-has : (batches : List BatchData) (batch : BatchData) → Contains batches batch → batch.moment ≤ greatest batches
greatest-has [] batch is = absurd (let no : is.0 < 0 = is.1 in omega arith)
greatest-has (b ∷ batches) batch is = by (greatest-has batches batch) (among b batches batch is)
  where
    by : (Contains batches batch → batch.moment ≤ greatest batches) → (b ≡ batch) ⊎ Contains batches batch → batch.moment ≤ max b.moment (greatest batches)
    by later (inl same) = omega (arith, ap (λ x. x.moment) same)
    by later (inr other) = omega (arith, later other)

greatest-within : (batches others : List BatchData) → ((b : BatchData) → Contains batches b → Contains others b) → greatest batches ≤ greatest others
greatest-within [] others all = omega arith
greatest-within (b ∷ batches) others all =
    omega (arith, greatest-has others b (all b (first_is b batches)), greatest-within batches others (λ c is. all c (Contains-append_right (b ∷ []) batches c is)))

any_of : {X : Type 0} (test : X → Bool) (xs : List X) (x : X) → Contains xs x → test x ≡ true → list_any test xs ≡ true
any_of test xs x is good = list_any_at test xs is.0 x is.1 (ap test is.2 ∙ good)

any-within : {X : Type 0} (test : X → Bool) (xs ys : List X) → ((x : X) → Contains xs x → Contains ys x) → list_any test xs ≡ true → list_any test ys ≡ true
any-within test [] ys all any = absurd cc
any-within test (x ∷ xs) ys all any = by (any-within test xs ys (λ y among. all y (Contains-append_right (x ∷ []) xs y among))) (test x) refl
  where
    by : (list_any test xs ≡ true → list_any test ys ≡ true) → (b : Bool) → test x ≡ b → list_any test ys ≡ true
    by later true is = any_of test ys x (all x (first_is x xs)) is
    by later false is = later (rw is at any)

agree : (a b : Bool) → (a ≡ true → b ≡ true) → (b ≡ true → a ≡ true) → a ≡ b
agree true b there back = sym (there refl)
agree false true there back = back refl
agree false false there back = refl

any-flat : (test : Use → Bool) (batches : List BatchData) → list_any test (flat_map (λ b. b.uses) batches) ≡ list_any (λ b. list_any test b.uses) batches
any-flat test [] = refl
any-flat test (b ∷ batches) = list_any-append test b.uses (flat_map (λ b. b.uses) batches) ∙ ap (λ r. list_any test b.uses || r) (any-flat test batches)

same_state : (a b : State) → a.moment ≡ b.moment → a.uses ≡ b.uses → a ≡ b
same_state a b m u = λ i. record { moment = m i; uses = u i }

pub joined_by_which : JoinedByWhich
unfolding joined
joined_by_which batches others same =
    let there = λ (b : BatchData). (same b).0 in
    let back = λ (b : BatchData). (same b).1 in
    let m : greatest batches ≡ greatest others = omega (arith, greatest-within batches others there, greatest-within others batches back) in
    let us = flat_map (λ (b : BatchData). b.uses) batches in
    let vs = flat_map (λ (b : BatchData). b.uses) others in
    let found = λ (u : Use). λ (b : BatchData). list_any (eq_by_cmp use_cmp u) b.uses in
    same_state (joined batches) (joined others) m
    (same_uses (live (uses_in us) (greatest batches)) (live (uses_in vs) (greatest others)) (λ u.
    holds-live (uses_in us) (greatest batches) u
    ∙ ap (λ n. nat_lt n u.exp && holds (uses_in us) u) m
    ∙ ap (λ h. nat_lt (greatest others) u.exp && h) (holds-uses_in us u ∙ any-flat (eq_by_cmp use_cmp u) batches
    ∙ agree _ _ (any-within (found u) batches others there) (any-within (found u) others batches back)
    ∙ sym (holds-uses_in vs u ∙ any-flat (eq_by_cmp use_cmp u) others))
    ∙ sym (holds-live (uses_in vs) (greatest others) u)))

-- the same batches give one text
pub merged_by_which : MergedByWhich
merged_by_which now told others same = ap (λ r. record_text (raised_to now r)) (joined_by_which (all_of told) (all_of others) same)

-- and one summary
pub summarized_by_which : SummarizedByWhich
summarized_by_which told others same = ap (λ r. summary_text (summary_of r)) (joined_by_which (all_of told) (all_of others) same)
