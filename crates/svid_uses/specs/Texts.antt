-- The texts of batches, one after the other.
use Rattle.std.specs.Prelude.{◌≡◌, ℕ, List, None}
use Rattle.std.specs.List.{flat_map}
use Rattle.svid_replay.specs.declared.token_use.Use.{Use}
use Rattle.svid_replay.specs.Batches.{BatchData}
use Rattle.svid_wire.specs.BatchText.{batch_text}
use Rattle.svid_log.specs.Values.{HasUses, uses_in}
use Rattle.svid_uses.specs.Batched.{AreBatched}
use Rattle.svid_uses.specs.Time.{HasSameUses}

-- the texts of batches, one after the other
abbrev pub texts_of : List BatchData → List ℕ
texts_of batches = flat_map batch_text batches

-- reading what was written of batched uses gives just those, in their order
abbrev pub WrittenAreRead : Type 0
WrittenAreRead = (uses : List Use) (batches : List BatchData) → AreBatched uses batches → HasUses (texts_of batches) (uses_in batches) None

-- the same uses, in any order and any number of times, are batched in one way
abbrev pub BatchedOneWay : Type 0
BatchedOneWay = (uses others : List Use) (a b : List BatchData) → HasSameUses uses others → AreBatched uses a → AreBatched others b → a ≡ b
