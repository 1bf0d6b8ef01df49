-- What an engine read of its inputs, and why one of them was refused.
use Rattle.std.specs.Prelude.{◌≡◌, ℕ, ◌+◌, ◌<◌, ◌≤◌, ◌⊎◌, List, [], ◌∷◌, ◌++◌, length, drop, Option}
use Rattle.std.specs.List.{flat_map}
use Rattle.svid_replay.specs.Batches.{BatchData}
use Rattle.svid_wire.specs.Messages.{Splits, batches_of}
use Rattle.svid_wire.specs.Faults.{raised}
use Rattle.svid_wire.specs.Streams.{Drawn, Gave, IsRead, IsReadFault, drawn}
use Rattle.svid_wire.specs.WireFault.{IsFieldFault, IsUnfinished}
use Rattle.svid_wire.specs.declared.message.Message.{Message}
use Rattle.svid_wire.specs.declared.reason.Reason.{Reason}
use Rattle.svid_wire.specs.declared.reason.Reason.TheVariants as wire
use Rattle.svid_wire.specs.declared.read_fault.ReadFault.{ReadFault}
use Rattle.svid_wire.specs.declared.read_fault.ReadFault.TheVariants as reading
use Rattle.svid_share.specs.declared.tool_fault.ToolFault.{ToolFault}
use Rattle.svid_share.specs.declared.tool_fault.ToolFault.TheVariants as fault

-- the most bytes that an input may have
abbrev pub most_bytes : ℕ
most_bytes = 67108864

-- the fault of an input with this number that could not be read
abbrev pub read_fault_of : ℕ → ReadFault → ToolFault
read_fault_of number reading.Stopped = fault.Read number
read_fault_of number reading.TooMuch = fault.TooMuch number
read_fault_of number reading.OutOfMemory = fault.OutOfMemory

-- the input with this number, which is not read as messages, could not be read, and this is its fault
pub record IsUnread (number : ℕ) (input : Drawn) (fault : ToolFault) : Type 0 where
  pub why : ReadFault
  pub due : IsReadFault input most_bytes why
  pub is : fault ≡ read_fault_of number why

-- the fault of bytes that are refused: out of memory has no offset
abbrev pub wire_fault_at : Reason → ℕ → ℕ → ℕ → ToolFault
wire_fault_at wire.OutOfMemory input message offset = fault.OutOfMemory
wire_fault_at reason input message offset = fault.Wire input message offset reason

-- the input was read to its end, and its bytes are these messages, one after the other
pub record IsWhole (input : Drawn) (messages : List Message) : Type 0 where
  pub bytes : List ℕ
  pub read : IsRead input most_bytes bytes
  pub splits : Splits bytes messages []

-- the bytes are these messages, one after the other, and a rest in which each whole field is good: nothing is wrong with them,
-- whatever follows
pub record IsGoodSoFar (bytes : List ℕ) (messages : List Message) (rest : List ℕ) : Type 0 where
  pub splits : Splits bytes messages rest
  pub unfinished : IsUnfinished rest

-- after some messages among the first bytes of the input, at most as many as it may have, a field is bad: for this reason, at
-- this offset of the message with this number
pub record HasBadField (input : Drawn) (message offset : ℕ) (reason : Reason) : Type 0 where
  pub bytes : List ℕ
  pub others : List ℕ
  pub given : Gave input (bytes ++ others)
  pub unstopped : input.stops_after ≡ input.stops_before
  pub within : length bytes ≤ most_bytes
  pub messages : List Message
  pub rest : List ℕ
  pub splits : Splits bytes messages rest
  pub number : message ≡ length messages + 1
  pub why : IsFieldFault rest (record { offset = offset; reason = reason })

-- the input was read to its end, and ends within the message with this number, at this offset of it
pub record EndsWithin (input : Drawn) (message offset : ℕ) : Type 0 where
  pub bytes : List ℕ
  pub read : IsRead input most_bytes bytes
  pub messages : List Message
  pub rest : List ℕ
  pub good : IsGoodSoFar bytes messages rest
  pub number : message ≡ length messages + 1
  pub some : 0 < length rest
  pub at : offset ≡ length rest

-- what is wrong with the message of this number, for this reason: a field, or the input ends within it
abbrev pub IsBroken : Drawn → ℕ → ℕ → Reason → Type 0
IsBroken input message offset wire.Truncated = EndsWithin input message offset
IsBroken input message offset reason = HasBadField input message offset reason

-- the input stopped, and nothing is wrong with the bytes that it gave before, at most as many as it may have
pub record StopsWithin (input : Drawn) : Type 0 where
  pub bytes : List ℕ
  pub given : Gave input bytes
  pub stopped : input.stops_after ≡ raised input.stops_before
  pub within : length bytes ≤ most_bytes
  pub messages : List Message
  pub rest : List ℕ
  pub good : IsGoodSoFar bytes messages rest

-- the input gave more bytes than it may have, and nothing is wrong with the first ones, as many as it may have
pub record IsTooLong (input : Drawn) : Type 0 where
  pub bytes : List ℕ
  pub others : List ℕ
  pub given : Gave input (bytes ++ others)
  pub unstopped : input.stops_after ≡ input.stops_before
  pub full : length bytes ≡ most_bytes
  pub some : 0 < length others
  pub messages : List Message
  pub rest : List ℕ
  pub good : IsGoodSoFar bytes messages rest

-- memory was refused for the first bytes of the input, at least one and at most as many as it may have; it gave them
-- without a stop
pub record WantsMemory (input : Drawn) : Type 0 where
  pub bytes : List ℕ
  pub others : List ℕ
  pub given : Gave input (bytes ++ others)
  pub unstopped : input.stops_after ≡ input.stops_before
  pub some : 0 < length bytes
  pub within : length bytes ≤ most_bytes

-- why the input with this number, which must be messages, was refused: something is wrong with its bytes, it could not be read to
-- its end and nothing is wrong with what came, or memory was refused for what came
abbrev pub IsInputFault : ℕ → Drawn → ToolFault → Type 0
IsInputFault number input (fault.Wire told message offset reason) = (told ≡ number) × IsBroken input message offset reason
IsInputFault number input (fault.Read told) = (told ≡ number) × StopsWithin input
IsInputFault number input (fault.TooMuch told) = (told ≡ number) × IsTooLong input
IsInputFault number input fault.OutOfMemory = WantsMemory input
IsInputFault number input _ = ⊥

-- the sources that a call reads, before and after it, with the definitions by which such a source describes itself
pub record Sources (S : Type 0) : Type 0 where
  pub left : S → Option (List ℕ)
  pub stops : S → ℕ
  pub old : List S
  pub new : List S

-- sources with their own definitions `left` and `stops`
abbrev pub sources : {S : Type 0} → (S → Option (List ℕ)) → (S → ℕ) → List S → List S → Sources S
sources left stops old new = record { left = left; stops = stops; old = old; new = new }

-- what was done to each source
abbrev pub each_drawn : {S : Type 0} → (S → Option (List ℕ)) → (S → ℕ) → List S → List S → List Drawn
each_drawn left stops [] news = []
each_drawn left stops (old ∷ olds) [] = []
each_drawn left stops (old ∷ olds) (new ∷ news) = drawn left stops old new ∷ each_drawn left stops olds news

-- what was done to the inputs of an engine, in their order
abbrev pub inputs_of : {S : Type 0} → Sources S → List Drawn
inputs_of s = each_drawn s.left s.stops s.old s.new

-- each input was read to its end, and its bytes are the messages of its list
abbrev pub AreWhole : List Drawn → List (List Message) → Type 0
AreWhole [] [] = Unit {0}
AreWhole (input ∷ inputs) (told ∷ others) = IsWhole input told × AreWhole inputs others
AreWhole _ _ = ⊥

-- the batches of all inputs, in their order
abbrev pub all_of : List (List Message) → List BatchData
all_of told = flat_map batches_of told

-- all inputs were read to their ends, and their bytes are messages
pub record AreAllWhole (inputs : List Drawn) : Type 0 where
  pub told : List (List Message)
  pub whole : AreWhole inputs told

-- an input was refused: those before it are whole, and the sources after it are as they were
pub record IsRefused {S : Type 0} (s : Sources S) (fault : ToolFault) : Type 0 where
  pub before : List Drawn
  pub refused : Drawn
  pub behind : List Drawn
  pub parts : inputs_of s ≡ before ++ refused ∷ behind
  pub told : List (List Message)
  pub whole : AreWhole before told
  pub why : IsInputFault (length before + 1) refused fault
  pub untouched : drop (length before + 1) s.new ≡ drop (length before + 1) s.old

-- why no text was made of inputs: one of them was refused, or all are whole, and memory was refused for their join
abbrev pub IsJoinFault : {S : Type 0} → Sources S → ToolFault → Type 0
IsJoinFault s given = IsRefused s given ⊎ ((given ≡ fault.OutOfMemory) × AreAllWhole (inputs_of s))
