-- The uses of a value of the log, from its bytes.
use Rattle.std.specs.Prelude.{◌≡◌, ◌≢◌, ◌⊎◌, ℕ, List, [], slice_get, Option, Some, None}
use Rattle.std.specs.List.{flat_map}
use Rattle.svid_replay.specs.declared.token_use.Use.{Use}
use Rattle.svid_replay.specs.Batches.{BatchData}
use Rattle.svid_wire.specs.Messages.{Splits, StopsAt, batches_of}
use Rattle.svid_wire.specs.WireFault.{no_memory}
use Rattle.svid_wire.specs.declared.message.Message.{Message}
use Rattle.svid_wire.specs.declared.wire_fault.WireFault.{WireFault}

-- the uses of batches, one batch after the other
abbrev pub uses_in : List BatchData → List Use
uses_in batches = flat_map (λ b. b.uses) batches

-- bytes are messages, and these are the uses of the batches among them
pub record IsValue (bytes : List ℕ) (uses : List Use) : Type 0 where
  pub messages : List Message
  pub whole : Splits bytes messages []
  pub told : uses ≡ uses_in (batches_of messages)

-- the bytes are no messages, for this reason, or memory was refused
abbrev pub IsNoValue : List ℕ → WireFault → Type 0
IsNoValue bytes fault = ((messages : List Message) × StopsAt bytes [] messages fault) ⊎ (fault ≡ no_memory)

-- the uses of a value: those of its batches, or none where its bytes are no messages, for this reason
abbrev pub HasUses : List ℕ → List Use → Option WireFault → Type 0
HasUses bytes uses None = IsValue bytes uses
HasUses bytes uses (Some fault) = (uses ≡ []) × (fault ≢ no_memory) × IsNoValue bytes fault

-- the uses of a value are the same for every reader
abbrev pub ValuesHaveOneReading : Type 0
ValuesHaveOneReading = (bytes : List ℕ) (uses others : List Use) (fault other : Option WireFault) → HasUses bytes uses fault → HasUses bytes others other → uses ≡ others

-- the values of a log, in bytes, and the uses of each
abbrev pub AreValues : List (List ℕ) → List (List Use) → Type 0
AreValues texts values = (i : ℕ) (bytes : List ℕ) → slice_get texts i ≡ Some bytes → (uses : List Use) × (fault : Option WireFault) × (slice_get values i ≡ Some uses) × HasUses bytes uses fault

-- a reader of a value finds the uses that the log has there
abbrev pub ValuesAreRead : Type 0
ValuesAreRead = (texts : List (List ℕ)) (values : List (List Use)) (i : ℕ) (bytes : List ℕ) (uses : List Use) (fault : Option WireFault)
    → AreValues texts values → slice_get texts i ≡ Some bytes → HasUses bytes uses fault → slice_get values i ≡ Some uses
