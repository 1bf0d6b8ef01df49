-- The pieces of a record tell what the record knew, and a record of payloads knows what they tell.
use Rattle.std.proofs.Common.{◌≡◌, ◌⊎◌, inl, inr, ℕ, ◌<◌, ◌≤◌, ◌||◌, max, nat_lt, Bool, true, List, [], ◌∷◌, map, None, sym, ap, ◌∙◌, subst, arith}
use Rattle.std.specs.List.{list_any}
use Rattle.std.proofs.lemmas.Bool.{and_parts, cases_lt, false≢true, or_cases, or_left, or_right}
use Rattle.std.proofs.lemmas.List.Folds.{list_any-append}
use Rattle.svid_replay.specs.declared.token_use.Use.{Use}
use Rattle.svid_replay.specs.Batches.{BatchData}
use Rattle.svid_replay.specs.Parts.{join_all}
use Rattle.svid_replay.specs.Records.{State, batch_state, join, state_of}
use Rattle.svid_replay.specs.Sets.{holds}
use Rattle.svid_replay.proofs.RecordsLemmas.{holds-join, join_comm, moment-join}
use Rattle.svid_replay.proofs.UsesLemmas.{holds-uses_in}
use Rattle.svid_wire.specs.BatchText.{batch_text}
use Rattle.svid_check.specs.Saves.{IsSaved}
use Rattle.svid_check.proofs.LaterLemmas.{saved_later, saves_add_nothing, saves_lose_nothing}
use Rattle.svid_answers.specs.Payloads.{PiecesTell, Sees, SeesNoMore, StartsKnow}
use Rattle.svid_answers.specs.Records.{Knows}
use Rattle.svid_answers.proofs.RecordsLemmas.{knows_join}

-- what two records know together, one of them knows
either_knows : (a b : State) (u : Use) → Knows (join a b) u → Knows a u ⊎ Knows b u
either_knows a b u (inl has) =
    elim (or_cases (holds b.uses u) (holds a.uses u) (and_parts (nat_lt (max a.moment b.moment) u.exp) (holds b.uses u || holds a.uses u) (sym (holds-join a b u) ∙ has)).1) [
      | inl here ↦ inr (inl here)
      | inr was ↦ inl (inl was)
    ]
either_knows a b u (inr past) =
    elim (cases_lt a.moment u.exp) [
      | inl before ↦ let all = moment-join a b in inr (inr (omega arith))
      | inr over ↦ inl (inr over)
    ]

module _ (tells : Use → List ℕ → Bool) (sees : Sees tells) (u : Use) where
  told : (r : State) (bs : List BatchData) → Knows (join_all r bs) u → Knows r u ⊎ (list_any (tells u) (map batch_text bs) ≡ true)
  told r [] knows = inl knows
  told r (b ∷ bs) knows = elim (told (join r (batch_state b)) bs knows) [
    | inl joined ↦ elim (either_knows r (batch_state b) u joined) [
      | inl was ↦ inl was
      | inr here ↦ inr (or_left (tells u (batch_text b)) (list_any (tells u) (map batch_text bs)) (sees u b here))
    ]
    | inr later ↦ inr (or_right (tells u (batch_text b)) (list_any (tells u) (map batch_text bs)) later)
  ]

  -- an empty record knows nothing but what was over at any time, and so does each batch
  all_told : (bs : List BatchData) (a z : State) → IsSaved a None bs z → Knows (join_all (state_of 0 []) bs) u → list_any (tells u) (map batch_text bs) ≡ true
  all_told [] a z saved knows = absurd saved
  all_told (b ∷ bs) a z saved knows = elim (told (state_of 0 []) (b ∷ bs) knows) [
    | inl (inl none) ↦ absurd (false≢true (sym (holds-uses_in [] u) ∙ none))
    | inl (inr over) ↦ or_left (tells u (batch_text b)) (list_any (tells u) (map batch_text bs)) (sees u b (inr (omega arith)))
    | inr found ↦ found
  ]

-- a save knows what its record knew
saved_knows : (a z : State) (batches : List BatchData) (u : Use) → IsSaved a None batches z → Knows a u → Knows (join_all (state_of 0 []) batches) u
saved_knows a z batches u saved knows = by knows (cases_lt z.moment u.exp)
  where
    by : Knows a u → (z.moment < u.exp) ⊎ (u.exp ≤ z.moment) → Knows (join_all (state_of 0 []) batches) u
    by (inl has) (inl live) = inl (saves_lose_nothing a z batches u saved has live)
    by (inr over) (inl live) = let later = (saved_later a None batches z saved).moment in absurd (omega arith)
    by knows (inr over) = let at = (saves_add_nothing a z batches saved).0 in inr (omega arith)

pub pieces_tell : PiecesTell
pieces_tell tells t w u a z front batches sees had saved parts ok landed none noted =
    ap (list_any (tells u)) parts ∙ list_any-append (tells u) front (map batch_text batches)
    ∙ or_right (list_any (tells u) front) (list_any (tells u) (map batch_text batches)) (all_told tells sees u batches a z saved (saved_knows a z batches u saved (had noted)))

-- a record that is joined with batches knows what it knew, and what each of them tells
still_knows : (r : State) (bs : List BatchData) (u : Use) → Knows r u → Knows (join_all r bs) u
still_knows r [] u knows = knows
still_knows r (b ∷ bs) u knows = still_knows (join r (batch_state b)) bs u (knows_join r (batch_state b) u knows)

batches_known : (tells : Use → List ℕ → Bool) (u : Use) (r : State) (bs : List BatchData) → SeesNoMore tells → list_any (tells u) (map batch_text bs) ≡ true → Knows (join_all r bs) u
batches_known tells u r [] sees found = absurd (false≢true found)
batches_known tells u r (b ∷ bs) sees found =
    let s = batch_state b in
    elim (or_cases (tells u (batch_text b)) (list_any (tells u) (map batch_text bs)) found) [
      | inl here ↦ still_knows (join r s) bs u (subst (λ (x : State). Knows x u) (join_comm s r) (knows_join s r u (sees u b here)))
      | inr later ↦ batches_known tells u (join r s) bs sees later
    ]

pub starts_know : StartsKnow
starts_know tells u batches sees found = batches_known tells u (state_of 0 []) batches sees found
