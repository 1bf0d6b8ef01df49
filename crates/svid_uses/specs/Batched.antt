-- Batches for each time at which uses were made.
use Rattle.std.specs.Prelude.{◌≡◌, ◌==◌, ◌<◌, ℕ, Bool, List, [], ◌∷◌, length, take}
use Rattle.std.specs.List.{AllByRecursion, prefix_len}
use Rattle.svid_replay.specs.declared.token_use.Use.{Use}
use Rattle.svid_replay.specs.Batches.{BatchData, IsBatch}
use Rattle.svid_log.specs.Values.{uses_in}
use Rattle.svid_uses.specs.Time.{HasSameUses, IsInTime}

-- each use of a batch was made at its moment
abbrev pub IsOfItsMoment : BatchData → Type 0
IsOfItsMoment b = AllByRecursion (λ u. u.at ≡ b.moment) b.uses

-- a batch has a use
abbrev pub HasUse : BatchData → Type 0
HasUse b = 0 < length b.uses

-- where the next batch is of the same moment, this one has 65,536 uses
abbrev pub IsFullBefore : BatchData → List BatchData → Type 0
IsFullBefore b [] = Unit {0}
IsFullBefore b (c ∷ bs) = b.moment ≡ c.moment → length b.uses ≡ 65536

-- this holds of each batch and the ones after it
abbrev pub AreFew : List BatchData → Type 0
AreFew [] = Unit {0}
AreFew (b ∷ bs) = IsFullBefore b bs × AreFew bs

-- batches with just these uses, in their order: each at the time at which it was made, in as few as hold them
pub record AreCut (us : List Use) (batches : List BatchData) : Type 0 where
  pub whole : uses_in batches ≡ us
  pub good : AllByRecursion IsBatch batches
  pub own : AllByRecursion IsOfItsMoment batches
  pub some : AllByRecursion HasUse batches
  pub few : AreFew batches

-- batches with the uses of a list, each use once, by the times at which they were made
pub record AreBatched (uses : List Use) (batches : List BatchData) : Type 0 where
  pub sorted : List Use
  pub in_time : IsInTime sorted
  pub same : HasSameUses uses sorted
  pub cut : AreCut sorted batches

-- the use was made at this moment
abbrev pub made_at : ℕ → Use → Bool
made_at moment u = u.at == moment

-- how many of the first uses were made at this moment, up to 65,536
abbrev pub count_at : ℕ → List Use → ℕ
count_at moment us = prefix_len (made_at moment) (take 65536 us)
