-- What the batches hold that uses are cut into, and what of a sender's uses a batch carries.
use Rattle.std.proofs.Common.{◌≡◌, ℕ, zero, suc, ◌-◌, ◌/◌, min, true, List, [], ◌∷◌, length, take, drop, refl, sym, ◌∙◌, ap, subst, inl, inr, Option, Some, IsTrue}
use Rattle.std.specs.Prelude.{slice_get}
use Rattle.std.specs.List.{filter, list_any}
use Rattle.std.specs.Ordering.{eq_by_cmp}
use Rattle.std.proofs.lemmas.Bool.{and_parts, or_cases, or_left, or_right}
use Rattle.std.proofs.lemmas.List.{take-append-drop}
use Rattle.std.proofs.lemmas.List.Folds.{list_any-append}
use Rattle.std.proofs.lemmas.Option.{none-some, same_Some}
use Rattle.svid_replay.specs.declared.token_use.Use.{Use}
use Rattle.svid_replay.specs.Batches.{BatchData, is_after}
use Rattle.svid_replay.specs.Parts.{cut, full_batches}
use Rattle.svid_replay.specs.Records.{State}
use Rattle.svid_replay.specs.Sets.{holds, rising}
use Rattle.svid_replay.specs.Use.{use_cmp}
use Rattle.svid_replay.specs.Uses.{uses_in}
use Rattle.svid_replay.proofs.SetsLemmas.{holds-rising}
use Rattle.svid_replay.proofs.UsesLemmas.{any-filter, holds-uses_in}
use Rattle.svid_check.specs.Saves.{piece_of}
use Rattle.svid_check.specs.World.{front, old_parts_of}

abbrev Listed : List Use → Use → Type 0
Listed us u = list_any (eq_by_cmp use_cmp u) us ≡ true

-- what some first uses list, or what is behind them, the whole lists
taken : (n : ℕ) (us : List Use) (u : Use) → Listed (take n us) u → Listed us u
taken n us u h =
    ap (list_any (eq_by_cmp use_cmp u)) (sym (take-append-drop n us)) ∙ list_any-append (eq_by_cmp use_cmp u) (take n us) (drop n us)
    ∙ or_left (list_any (eq_by_cmp use_cmp u) (take n us)) (list_any (eq_by_cmp use_cmp u) (drop n us)) h

dropped : (n : ℕ) (us : List Use) (u : Use) → Listed (drop n us) u → Listed us u
dropped n us u h =
    ap (list_any (eq_by_cmp use_cmp u)) (sym (take-append-drop n us)) ∙ list_any-append (eq_by_cmp use_cmp u) (take n us) (drop n us)
    ∙ or_right (list_any (eq_by_cmp use_cmp u) (take n us)) (list_any (eq_by_cmp use_cmp u) (drop n us)) h

-- So many full batches, and one of the rest.

each_within : (size n m : ℕ) (us : List Use) (p : ℕ) (b : BatchData) → slice_get (full_batches size n m us) p ≡ Some b → (u : Use) → Listed b.uses u → Listed us u
unfolding full_batches
each_within size zero m us zero b e u h = subst (λ (x : BatchData). Listed x.uses u) (sym (same_Some (record { moment = m; uses = us }) b e)) h
each_within size zero m us (suc p) b e u h = absurd (none-some b e)
each_within size (suc n) m us zero b e u h = taken size us u (subst (λ (x : BatchData). Listed x.uses u) (sym (same_Some (record { moment = m; uses = take size us }) b e)) h)
each_within size (suc n) m us (suc p) b e u h = dropped size us u (each_within size n m (drop size us) p b e u h)

-- a batch of these lists the use
record InOne (batches : List BatchData) (u : Use) : Type 0 where
  index : ℕ
  part : BatchData
  stands : slice_get batches index ≡ Some part
  lists : Listed part.uses u

here : (b : BatchData) (bs : List BatchData) (u : Use) → Listed b.uses u → InOne (b ∷ bs) u
here b bs u h = record { index = zero; part = b; stands = refl; lists = h }

later : (b : BatchData) (bs : List BatchData) (u : Use) → InOne bs u → InOne (b ∷ bs) u
later b bs u i = record { index = suc i.index; part = i.part; stands = i.stands; lists = i.lists }

in_one : (size n m : ℕ) (us : List Use) (u : Use) → Listed us u → InOne (full_batches size n m us) u
unfolding full_batches
in_one size zero m us u h = here (record { moment = m; uses = us }) [] u h
in_one size (suc n) m us u h =
    let b : BatchData = record { moment = m; uses = take size us } in
    let tied = eq_by_cmp use_cmp u in
    elim (or_cases (list_any tied (take size us)) (list_any tied (drop size us)) (sym (ap (list_any tied) (sym (take-append-drop size us)) ∙ list_any-append tied (take size us) (drop size us)) ∙ h)) [
      | inl a ↦ here b (full_batches size n m (drop size us)) u a
      | inr r ↦ later b (full_batches size n m (drop size us)) u (in_one size n m (drop size us) u r)
    ]

-- the batches are those that uses are cut into: some full ones of one size, and one of the rest
pub record AreCut (m : ℕ) (us : List Use) (batches : List BatchData) : Type 0 where
  pub size : ℕ
  pub full : ℕ
  pub is : batches ≡ full_batches size full m us

pub cut_are_cut : (m : ℕ) (us : List Use) → AreCut m us (cut m us)
unfolding cut
cut_are_cut m us = record { size = 65536; full = (length us - 1) / 65536; is = refl }

pub old_are_cut : (r : State) → AreCut r.moment (rising r.uses) (old_parts_of r)
old_are_cut r = record { size = 4096; full = (length (rising r.uses) - 1) / 4096; is = refl }

-- what a part holds is of the uses that were cut
pub part_within : (m : ℕ) (us : List Use) (batches : List BatchData) (p : ℕ) (b : BatchData) → AreCut m us batches → slice_get batches p ≡ Some b → (u : Use) → IsTrue (holds (uses_in b.uses) u) → IsTrue (holds (uses_in us) u)
part_within m us batches p b are e u h =
    holds-uses_in us u ∙ each_within are.size are.full m us p b (subst (λ (bs : List BatchData). slice_get bs p ≡ Some b) are.is e) u (sym (holds-uses_in b.uses u) ∙ h)

-- each of the uses that were cut is in a part
pub in_part : (m : ℕ) (us : List Use) (batches : List BatchData) (u : Use) → AreCut m us batches → IsTrue (holds (uses_in us) u) → (p : ℕ) × (b : BatchData) × (slice_get batches p ≡ Some b) × IsTrue (holds (uses_in b.uses) u)
in_part m us batches u are h =
    let i = in_one are.size are.full m us u (sym (holds-uses_in us u) ∙ h) in
    (i.index, i.part, ap (λ (bs : List BatchData). slice_get bs i.index) are.is ∙ i.stands, holds-uses_in i.part.uses u ∙ i.lists)

first_one : (size n m : ℕ) (us : List Use) → (b : BatchData) × (slice_get (full_batches size n m us) 0 ≡ Some b) × (b.moment ≡ m)
unfolding full_batches
first_one size zero m us = (record { moment = m; uses = us }, refl, refl)
first_one size (suc n) m us = (record { moment = m; uses = take size us }, refl, refl)

-- there is a first part
pub first_part : (m : ℕ) (us : List Use) (batches : List BatchData) → AreCut m us batches → (b : BatchData) × (slice_get batches 0 ≡ Some b) × (b.moment ≡ m)
first_part m us batches are =
    let f = first_one are.size are.full m us in
    (f.0, ap (λ (bs : List BatchData). slice_get bs 0) are.is ∙ f.1, f.2)

-- what a piece holds is of the record
pub piece_within : (r : State) (after : Option Use) (most : ℕ) (u : Use) → IsTrue (holds (uses_in (piece_of r after most).uses) u) → IsTrue (holds r.uses u)
piece_within r after most u h =
    let kept = filter (is_after after) (rising r.uses) in
    let n = min most 65536 in
    let listed : Listed kept u = taken n kept u (sym (holds-uses_in (take n kept) u) ∙ h) in
    holds-rising use_cmp r.uses u ∙ (and_parts (is_after after u) (list_any (eq_by_cmp use_cmp u) (rising r.uses)) (sym (any-filter (is_after after) u (rising r.uses)) ∙ listed)).1

-- the first uses of a batch are of its uses
pub front_within : (n : ℕ) (b : BatchData) (u : Use) → IsTrue (holds (uses_in (front n b).uses) u) → IsTrue (holds (uses_in b.uses) u)
front_within n b u h = holds-uses_in b.uses u ∙ taken n b.uses u (sym (holds-uses_in (take n b.uses) u) ∙ h)
