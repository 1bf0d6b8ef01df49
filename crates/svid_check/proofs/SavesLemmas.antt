-- Pieces of a record.
use Rattle.std.proofs.Common.{◌≡◌, ℕ, zero, suc, ◌≤◌, min, Bool, true, false, cond, List, [], ◌∷◌, length, take, Option, arith}
use Rattle.std.specs.List.{AllByRecursion, filter}
use Rattle.std.specs.List.Sorted.{IsStrictlySortedBy}
use Rattle.std.proofs.lemmas.List.{length-take}
use Rattle.std.proofs.lemmas.List.Kept.{IsStrictlySortedBy-filter}
use Rattle.svid_replay.specs.declared.token_use.Use.{Use}
use Rattle.svid_replay.specs.Batches.{IsBatch, is_after}
use Rattle.svid_replay.specs.Records.{IsHeldAt, IsRecord, State}
use Rattle.svid_replay.specs.Sets.{rising}
use Rattle.svid_replay.specs.Use.{IsRising, use_cmp}
use Rattle.svid_replay.proofs.ListLemmas.{each_take}
use Rattle.svid_replay.proofs.PartsLemmas.{each_held, held_is_batch}
use Rattle.svid_replay.proofs.SetsLemmas.{rising_rises}
use Rattle.svid_check.specs.Saves.{uses_after}

each_kept : (P : Use → Type 0) (p : Use → Bool) (us : List Use) → AllByRecursion P us → AllByRecursion P (filter p us)
each_kept P p [] all = tt
each_kept P p (u ∷ us) all = elim (p u) as (λ b. AllByRecursion P (cond b (u ∷ filter p us) (filter p us))) [
  | true ↦ (all.0, each_kept P p us all.1)
  | false ↦ each_kept P p us all.1
]

rises_take : (n : ℕ) (us : List Use) → IsRising us → IsRising (take n us)
unfolding IsStrictlySortedBy
rises_take zero us up = tt
rises_take (suc n) [] up = tt
rises_take (suc n) (u ∷ us) up = (each_take _ n us up.0, rises_take n us up.1)

-- the uses of a record behind one of them, as many as fit, are a batch
pub piece_is_batch : (r : State) (after : Option Use) (most n moment : ℕ) (us : List Use) → IsRecord r → n ≡ min most 65536 → us ≡ uses_after r.uses after n → moment ≡ r.moment → IsBatch (record { moment = moment; uses = us })
piece_is_batch r after most n moment us is few same at =
    let kept = filter (is_after after) (rising r.uses) in
    let fits : length (take n kept) ≤ 65536 = omega (arith, length-take n kept, few) in
    rw (same, at) (held_is_batch r.moment (take n kept) is.moment fits
    (rises_take n kept (IsStrictlySortedBy-filter use_cmp (is_after after) (rising r.uses) (rising_rises use_cmp r.uses)))
    (each_take (IsHeldAt r.moment) n kept (each_kept (IsHeldAt r.moment) (is_after after) (rising r.uses) (each_held r is))))
