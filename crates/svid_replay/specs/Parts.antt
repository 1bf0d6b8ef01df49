use Rattle.std.specs.Prelude.{◌≡◌, ℕ, zero, suc, ◌-◌, ◌/◌, ◌<◌, ◌≤◌, List, [], ◌∷◌, ◌++◌, length, take, drop, flat_map, All}
use Rattle.svid_replay.specs.declared.token_use.Use.{Use}
use Rattle.std.specs.List.{AllByRecursion}
use Rattle.svid_replay.specs.Batches.{BatchData, IsBatch}
use Rattle.svid_replay.specs.Records.{State, IsRecord, join, state_of, batch_state}
use Rattle.svid_replay.specs.Sets.{rising}

-- n batches of so many uses each, and one of the rest
unfoldable pub full_batches : ℕ → ℕ → ℕ → List Use → List BatchData
full_batches size zero moment us = record { moment = moment; uses = us } ∷ []
full_batches size (suc n) moment us = record { moment = moment; uses = take size us } ∷ full_batches size n moment (drop size us)

-- the uses as batches of one moment, as few as hold them
unfoldable pub cut : ℕ → List Use → List BatchData
cut moment us = full_batches 65536 ((length us - 1) / 65536) moment us

-- batches of one moment that hold the uses in their order: 65,536 in each but the last, which has one or more where there is a use at all
pub record AreParts (moment : ℕ) (us : List Use) (batches : List BatchData) : Type 0 where
  pub full : List BatchData
  pub last : BatchData
  pub parts : batches ≡ full ++ last ∷ []
  pub whole : flat_map (λ b. b.uses) batches ≡ us
  pub moments : All (λ b. b.moment ≡ moment) batches
  pub sizes : All (λ b. length b.uses ≡ 65536) full
  pub few : length last.uses ≤ 65536
  pub some : 0 < length us → 0 < length last.uses

-- the parts of a record: its uses, rising, as batches of its moment
abbrev pub parts_of : State → List BatchData
parts_of r = cut r.moment (rising r.uses)

-- a record joined with one batch after the other
abbrev pub join_all : State → List BatchData → State
join_all r [] = r
join_all r (b ∷ bs) = join_all (join r (batch_state b)) bs

-- each part of a record is a batch
abbrev pub PartsAreBatches : Type 0
PartsAreBatches = (r : State) → IsRecord r → AllByRecursion IsBatch (parts_of r)

-- records with the same parts are the same
abbrev pub SamePartsSameRecord : Type 0
SamePartsSameRecord = (a b : State) → parts_of a ≡ parts_of b → a ≡ b

-- a new record joined with all parts of a record is that record
abbrev pub PartsGiveRecord : Type 0
PartsGiveRecord = (r : State) → IsRecord r → join_all (state_of 0 []) (parts_of r) ≡ r

-- what `cut` gives are parts of the uses
abbrev pub CutGivesParts : Type 0
CutGivesParts = (moment : ℕ) (us : List Use) → AreParts moment us (cut moment us)
