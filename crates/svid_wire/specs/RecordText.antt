-- The text of a record.
use Rattle.std.specs.Prelude.{◌≡◌, ◌↔◌, ℕ, List}
use Rattle.std.specs.List.{flat_map}
use Rattle.svid_replay.specs.Parts.{parts_of}
use Rattle.svid_replay.specs.Records.{State, IsRecord}
use Rattle.svid_wire.specs.BatchText.{batch_text}

-- the texts of the parts of a record, one after the other
abbrev pub record_text : State → List ℕ
record_text r = flat_map batch_text (parts_of r)

-- records are equal exactly if their texts are
abbrev pub TextTellsRecord : Type 0
TextTellsRecord = (a b : State) → IsRecord a → IsRecord b → (record_text a ≡ record_text b) ↔ (a ≡ b)
