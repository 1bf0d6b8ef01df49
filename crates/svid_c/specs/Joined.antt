-- What the calls on messages write.
use Rattle.std.specs.Prelude.{◌≡◌, ◌≢◌, ◌⊎◌, ℕ, List, [], ◌∷◌, ◌++◌, Some}
use Rattle.std.specs.List.{flat_map}
use Rattle.svid_replay.specs.Buckets.{answer_to, summary_of}
use Rattle.svid_replay.specs.Records.{State}
use Rattle.svid_replay.specs.Summary.{SummaryData}
use Rattle.svid_wire.specs.BatchText.{batch_text}
use Rattle.svid_wire.specs.Messages.{batches_of}
use Rattle.svid_wire.specs.RecordText.{record_text}
use Rattle.svid_wire.specs.SummaryText.{summary_text}
use Rattle.svid_wire.specs.declared.message.Message.{Message}
use Rattle.svid_wire.specs.declared.message.Message.TheVariants.{Summary}
use Rattle.svid_share.specs.Joined.{joined, raised_to}
use Rattle.svid_share.specs.declared.tool_fault.ToolFault.{ToolFault}
use Rattle.svid_share.specs.declared.tool_fault.ToolFault.TheVariants.{NotSummary}
use Rattle.svid_c.specs.Inputs.{AreMessages, AreRefused, IsRefused}

-- the record of all batches in these bytes, advanced to a moment
pub record IsRecordOf (bytes : List ℕ) (now : ℕ) (r : State) : Type 0 where
  pub told : List Message
  pub are : AreMessages bytes told
  pub is : r ≡ raised_to (Some now) (joined (batches_of told))

-- the text is due to that record
pub record IsTextOf (due : State → List ℕ) (bytes : List ℕ) (now : ℕ) (text : List ℕ) : Type 0 where
  pub r : State
  pub comes : IsRecordOf bytes now r
  pub is : text ≡ due r

-- the text is that of the record of the batches of both, advanced to a moment
pub record IsJoined (a b : List ℕ) (now : ℕ) (text : List ℕ) : Type 0 where
  pub first : List Message
  pub second : List Message
  pub a_is : AreMessages a first
  pub b_is : AreMessages b second
  pub is : text ≡ record_text (raised_to (Some now) (joined (batches_of first ++ batches_of second)))

-- the text of the summary of a record
abbrev pub summary_text_of : State → List ℕ
summary_text_of r = summary_text (summary_of r)

-- the texts of the answer of a record to a summary
abbrev pub answer_text : SummaryData → State → List ℕ
answer_text asked r = flat_map batch_text (answer_to r asked)

-- the first input is one summary, and the text is the answer to it from the record of the second one
pub record IsAnswer (summary bytes : List ℕ) (now : ℕ) (text : List ℕ) : Type 0 where
  pub asked : SummaryData
  pub one : AreMessages summary (Summary asked ∷ [])
  pub is : IsTextOf (answer_text asked) bytes now text

-- the bytes are messages, but not one summary
pub record IsNoSummary (bytes : List ℕ) : Type 0 where
  pub told : List Message
  pub are : AreMessages bytes told
  pub other : (asked : SummaryData) → told ≢ Summary asked ∷ []

-- why the first input is refused, which is to be one summary
abbrev pub IsSummaryRefused : List ℕ → ToolFault → Type 0
IsSummaryRefused bytes NotSummary = IsNoSummary bytes
IsSummaryRefused bytes fault = IsRefused 1 bytes fault

-- the first input is one summary, and what stands behind it is refused
pub record IsBehindRefused (summary bytes : List ℕ) (fault : ToolFault) : Type 0 where
  pub asked : SummaryData
  pub one : AreMessages summary (Summary asked ∷ [])
  pub why : AreRefused 2 (bytes ∷ []) fault

-- why there is no answer: the summary is refused, or what stands behind it
abbrev pub IsAnswerRefused : List ℕ → List ℕ → ToolFault → Type 0
IsAnswerRefused summary bytes fault = IsSummaryRefused summary fault ⊎ IsBehindRefused summary bytes fault
