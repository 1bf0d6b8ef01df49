-- What `svid answer` writes for its inputs, and why it gives up.
use Rattle.std.specs.Prelude.{◌≡◌, ◌≢◌, ◌⊎◌, ℕ, List, [], ◌∷◌, ◌++◌, Option, None, Some}
use Rattle.std.specs.List.{flat_map}
use Rattle.svid_replay.specs.Buckets.{answer_to}
use Rattle.svid_replay.specs.Summary.{SummaryData}
use Rattle.svid_wire.specs.BatchText.{batch_text}
use Rattle.svid_wire.specs.Faults.{raised}
use Rattle.svid_wire.specs.Streams.{Drawn, Taken}
use Rattle.svid_wire.specs.declared.message.Message.{Message}
use Rattle.svid_wire.specs.declared.message.Message.TheVariants as message
use Rattle.svid_share.specs.declared.tool_fault.ToolFault.{ToolFault}
use Rattle.svid_share.specs.declared.tool_fault.ToolFault.TheVariants as tool
use Rattle.svid_share.specs.Inputs.{IsInputFault, IsJoinFault, IsWhole, Sources, all_of, inputs_of}
use Rattle.svid_share.specs.Joined.{joined}
use Rattle.svid_share.specs.Written.{IsPartlyWritten, IsWritten}

-- the texts of the answer to a summary, by the join of the batches of all inputs
abbrev pub answer_due : SummaryData → List (List Message) → List ℕ
answer_due asked told = flat_map batch_text (answer_to (joined (all_of told)) asked)

-- the input was read to its end, and its bytes are this one summary
abbrev pub IsOneSummary : Drawn → SummaryData → Type 0
IsOneSummary input asked = IsWhole input (message.Summary asked ∷ [])

-- the input was read to its end, and its bytes are messages, but not one summary: none, or more than one, or a batch
pub record IsNoSummary (input : Drawn) : Type 0 where
  pub told : List Message
  pub whole : IsWhole input told
  pub other : (asked : SummaryData) → told ≢ message.Summary asked ∷ []

-- this is the last of the messages, where there is one
abbrev pub IsLast : List Message → Option Message → Type 0
IsLast told None = told ≡ []
IsLast told (Some last) = (front : List Message) × (told ≡ front ++ last ∷ [])

-- why the input with this number, which must be one summary, was refused: it is messages, but not one summary; or as any input of
-- messages
abbrev pub IsSummaryFault : ℕ → Drawn → ToolFault → Type 0
IsSummaryFault number input tool.NotSummary = IsNoSummary input
IsSummaryFault number input given = IsInputFault number input given

-- the fault of inputs that follow another one: the number is one greater, held at 2^64-1
abbrev pub behind_one : ToolFault → ToolFault
behind_one (tool.Wire input message offset reason) = tool.Wire (raised input) message offset reason
behind_one (tool.Read input) = tool.Read (raised input)
behind_one (tool.TooMuch input) = tool.TooMuch (raised input)
behind_one given = given

-- the first input is one summary, all others are whole, and the answer that is due was written
pub record IsAnswered (summary : Drawn) (inputs : List Drawn) (out : Taken) : Type 0 where
  pub asked : SummaryData
  pub one : IsOneSummary summary asked
  pub written : IsWritten (answer_due asked) inputs out

-- the same, but a part of the answer was written
pub record IsPartlyAnswered (summary : Drawn) (inputs : List Drawn) (out : Taken) : Type 0 where
  pub asked : SummaryData
  pub one : IsOneSummary summary asked
  pub part : IsPartlyWritten (answer_due asked) inputs out

-- the first input was refused, and all others are as they were
pub record IsSummaryRefused {S : Type 0} (summary : Drawn) (s : Sources S) (given : ToolFault) : Type 0 where
  pub why : IsSummaryFault 1 summary given
  pub untouched : s.new ≡ s.old

-- the first input is one summary, and no text was made of the others
pub record AreOthersRefused {S : Type 0} (summary : Drawn) (s : Sources S) (given : ToolFault) : Type 0 where
  pub asked : SummaryData
  pub one : IsOneSummary summary asked
  pub own : ToolFault
  pub why : IsJoinFault s own
  pub is : given ≡ behind_one own

-- when the engine gives up: since the sink stopped, for the first input, or for the others
abbrev pub IsAnswerFault : {S : Type 0} → Drawn → Sources S → Taken → ToolFault → Type 0
IsAnswerFault summary s out tool.Write = IsPartlyAnswered summary (inputs_of s) out
IsAnswerFault summary s out given = IsSummaryRefused summary s given ⊎ AreOthersRefused summary s given
