-- The texts of messages, one after the other.
use Rattle.std.specs.Prelude.{◌≡◌, ℕ, ◌<◌, ◌⊎◌, List, [], ◌∷◌, ◌++◌, length, map, All}
use Rattle.std.specs.List.{AllByRecursion, flat_map}
use Rattle.svid_replay.specs.Batches.{BatchData, IsBatch}
use Rattle.svid_replay.specs.Summary.{SummaryData, IsSummary}
use Rattle.svid_wire.specs.BatchText.{IsBatchIn, batch_text, batch_text_in}
use Rattle.svid_wire.specs.SummaryText.{summary_text}
use Rattle.svid_wire.specs.WireFault.{IsFault, IsFieldRefusal, IsRefusal}
use Rattle.svid_wire.specs.declared.message.Message.{Message}
use Rattle.svid_wire.specs.declared.message.Message.TheVariants.{Batch, Summary}
use Rattle.svid_wire.specs.declared.version.Version.{Version}
use Rattle.svid_wire.specs.declared.version.Version.TheVariants.{One}
use Rattle.svid_wire.specs.declared.wire_fault.WireFault.{WireFault}

-- the text that is written of a message
abbrev pub message_text : Message → List ℕ
message_text (Batch b) = batch_text b
message_text (Summary s) = summary_text s

-- a message: its numbers and byte lists have the ranges and lengths of their fields, and it breaks no rule
abbrev pub IsMessage : Message → Type 0
IsMessage (Batch b) = IsBatch b
IsMessage (Summary s) = IsSummary s

-- A message in the form of its bytes: a batch in either version, or a summary.
pub data Written : Type 0 where
  batch_in : Version → BatchData → Written
  summary : SummaryData → Written

-- its text
abbrev pub written_text : Written → List ℕ
written_text (batch_in v b) = batch_text_in v b
written_text (summary s) = summary_text s

-- the message that it is read as
abbrev pub read_as : Written → Message
read_as (batch_in v b) = Batch b
read_as (summary s) = Summary s

-- the message breaks no rule, and its version has a text for it
abbrev pub IsWritten : Written → Type 0
IsWritten (batch_in v b) = IsBatchIn v b
IsWritten (summary s) = IsSummary s

-- the batches among messages
abbrev pub batches_of : List Message → List BatchData
batches_of [] = []
batches_of (Batch b ∷ ms) = b ∷ batches_of ms
batches_of (Summary s ∷ ms) = batches_of ms

-- the bytes are texts of these messages, one after the other, and then a rest
pub record Splits (bytes : List ℕ) (messages : List Message) (rest : List ℕ) : Type 0 where
  pub written : List Written
  pub good : AllByRecursion IsWritten written
  pub told : messages ≡ map read_as written
  pub parts : bytes ≡ flat_map written_text written ++ rest

-- messages were appended whose texts are the bytes, up to a rest
pub record Appended (bytes : List ℕ) (old new : List Message) (rest : List ℕ) : Type 0 where
  pub came : List Message
  pub grown : new ≡ old ++ came
  pub splits : Splits bytes came rest

-- after the appended messages come bytes that were refused for this
pub record StopsAt (bytes : List ℕ) (old new : List Message) (fault : WireFault) : Type 0 where
  pub rest : List ℕ
  pub some : 0 < length rest
  pub read : Appended bytes old new rest
  pub why : IsRefusal rest fault

-- after the appended messages come bytes with a bad field, or memory was refused for them
pub record StopsIn (bytes : List ℕ) (old new : List Message) (fault : WireFault) : Type 0 where
  pub rest : List ℕ
  pub some : 0 < length rest
  pub read : Appended bytes old new rest
  pub why : IsFieldRefusal rest fault

-- the bytes begin with a message
pub record BeginsMessage (bytes : List ℕ) : Type 0 where
  pub message : Written
  pub rest : List ℕ
  pub good : IsWritten message
  pub parts : bytes ≡ written_text message ++ rest

-- the bytes are texts of these messages, one after the other, and then a rest that begins with no message
pub record Parses (bytes : List ℕ) (messages : List Message) (rest : List ℕ) : Type 0 where
  pub splits : Splits bytes messages rest
  pub ends : ¬ BeginsMessage rest

-- bytes have a fault
abbrev pub HasFault : List ℕ → Type 0
HasFault bytes = (fault : WireFault) × IsFault bytes fault

-- bytes begin with at most one message
abbrev pub BeginsOneMessage : Type 0
BeginsOneMessage = (a b : Written) (x y : List ℕ) → IsWritten a → IsWritten b → written_text a ++ x ≡ written_text b ++ y → (a ≡ b) × (x ≡ y)

-- reading the text that is written of a message gives that message
abbrev pub WrittenIsRead : Type 0
WrittenIsRead = (m : Message) → IsMessage m → Splits (message_text m) (m ∷ []) []

-- a batch of version 1 is read as the batch that its text of version 2 gives
abbrev pub OldBatchIsRead : Type 0
OldBatchIsRead = (b : BatchData) → IsBatchIn One b → Splits (batch_text_in One b) (Batch b ∷ []) [] × Splits (batch_text b) (Batch b ∷ []) []

-- bytes that begin with the text of a message have no fault
abbrev pub TextHasNoFault : Type 0
TextHasNoFault = (m : Written) (rest : List ℕ) (fault : WireFault) → IsWritten m → ¬ IsFault (written_text m ++ rest) fault

-- bytes begin with a message or have a fault, unless there are none
abbrev pub BeginsOrFaults : Type 0
BeginsOrFaults = (bytes : List ℕ) → All (λ b. b < 256) bytes → 0 < length bytes → BeginsMessage bytes ⊎ HasFault bytes

-- the text of a message with bytes after it is no message's text
abbrev pub NoTextIsLonger : Type 0
NoTextIsLonger = (a b : Written) (more : List ℕ) → IsWritten a → IsWritten b → written_text a ++ more ≡ written_text b → more ≡ []

-- bytes parse in at most one way
abbrev pub ParsesOneWay : Type 0
ParsesOneWay = (bytes : List ℕ) (messages others : List Message) (rest other : List ℕ) → Parses bytes messages rest → Parses bytes others other → (messages ≡ others) × (rest ≡ other)

-- all bytes parse
abbrev pub EachParses : Type 0
EachParses = (bytes : List ℕ) → All (λ b. b < 256) bytes → (messages : List Message) × (rest : List ℕ) × Parses bytes messages rest

-- messages up to the end of the bytes, or up to bytes that have a fault, are a parse
abbrev pub ParseEnds : Type 0
ParseEnds = (bytes : List ℕ) (messages : List Message) (rest : List ℕ) → Splits bytes messages rest → (rest ≡ []) ⊎ HasFault rest → Parses bytes messages rest

-- bytes may be cut anywhere: a parse of the first part, and one of its rest followed by the others, make the parse of all
abbrev pub CutAnywhere : Type 0
CutAnywhere = (first others : List ℕ) (messages more : List Message) (rest last : List ℕ) → Parses first messages rest → Parses (rest ++ others) more last → Parses (first ++ others) (messages ++ more) last
