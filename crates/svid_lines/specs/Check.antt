-- What `svid check` writes for its inputs.
use Rattle.std.specs.Prelude.{◌≡◌, ℕ, ◌+◌, ◌-◌, ◌^◌, min, Bool, List, [], map, string_bytes, Option, None, Some, ◌⊎◌}
use Rattle.svid_keys.specs.Bundles.{Bundle}
use Rattle.svid_keys.specs.Lines.{lines_of}
use Rattle.svid_keys.specs.Table.{is_among, questions_in, table_fault, table_says}
use Rattle.svid_keys.specs.declared.table_fault.TableFault.TheVariants as table
use Rattle.svid_replay.specs.Records.{State}
use Rattle.std.specs.Io.KnownBytes.{Appends}
use Rattle.svid_wire.specs.Faults.{raised}
use Rattle.svid_wire.specs.RecordText.{record_text}
use Rattle.svid_wire.specs.Streams.{Drawn, IsRead, Taken, TookAll, TookPart, taken}
use Rattle.svid_wire.specs.declared.message.Message.{Message}
use Rattle.svid_check.specs.Setting.{Says, Setting}
use Rattle.svid_lines.specs.Bundles.{AreBundlesRead, IsBundlesFault}
use Rattle.svid_lines.specs.Memory.{WantsMemoryFor}
use Rattle.svid_lines.specs.Checks.{are_accepted, judgement_lines, judgements, record_after, tokens_of}
use Rattle.svid_share.specs.Inputs.{AreWhole, IsRefused, IsUnread, Sources, all_of, inputs_of, most_bytes}
use Rattle.svid_share.specs.Joined.{joined}
use Rattle.svid_lines.specs.declared.check.CheckSetting.{CheckSetting}
use Rattle.svid_lines.specs.declared.check.Outcome.{Outcome as OutcomeMade}
use Rattle.svid_share.specs.declared.tool_fault.ToolFault.{ToolFault}
use Rattle.svid_share.specs.declared.tool_fault.ToolFault.TheVariants as tool

-- what was done to the inputs of the run; there may be no earlier record, or several
pub record CheckInputs (R : Type 0) : Type 0 where
  pub bundles : Drawn
  pub table : Drawn
  pub tokens : Drawn
  pub earlier : Sources R

-- what was done to a sink whose text is kept, with what it kept before and after
pub record Keeping : Type 0 where
  pub sink : Taken
  pub kept_before : Option (List ℕ)
  pub kept : Option (List ℕ)

-- what was done to its outputs; the record after the last check may be kept, or not
pub record CheckOutputs : Type 0 where
  pub kept : Option Keeping
  pub out : Taken

-- the same for a sink, by its own definitions `told`, `stops` and `kept`
abbrev pub keeping : {K : Type 0} → (K → Option (List ℕ)) → (K → ℕ) → (K → Option (List ℕ)) → K → K → Keeping
keeping told stops kept old new = record { sink = taken told stops old new; kept_before = kept old; kept = kept new }

-- the same for a sink that may be missing
abbrev pub keeping_if : {K : Type 0} → (K → Option (List ℕ)) → (K → ℕ) → (K → Option (List ℕ)) → Option K → Option K → Option Keeping
keeping_if told stops kept (Some old) (Some new) = Some (keeping told stops kept old new)
keeping_if told stops kept _ _ = None

-- the input was read, and each of its lines is a question or empty; these are the questions
pub record IsTableRead (input : Drawn) (questions : List (List ℕ)) : Type 0 where
  pub text : List ℕ
  pub read : IsRead input most_bytes text
  pub good : table_fault text ≡ None
  pub are : questions_in text ≡ questions

-- the input was read, and the line with this number, counted from 1, is the first that is neither empty nor a question
pub record IsTableRefused (input : Drawn) (line : ℕ) : Type 0 where
  pub text : List ℕ
  pub read : IsRead input most_bytes text
  pub why : table_fault text ≡ Some (table.Line line)

-- the input was read, its lines are good, and this is the list of its questions, in any order
pub record IsTableOf (input : Drawn) (table : List (List ℕ)) : Type 0 where
  pub questions : List (List ℕ)
  pub read : IsTableRead input questions
  pub same : (question : List ℕ) → is_among question table ≡ is_among question questions

-- the record that the run begins with: the join of the batches of all earlier ones, or a new record where there are none
pub record IsEarlier (inputs : List Drawn) (state : State) : Type 0 where
  pub told : List (List Message)
  pub whole : AreWhole inputs told
  pub is : state ≡ joined (all_of told)

-- the content of the inputs
pub record Read : Type 0 where
  pub bundles : List Bundle
  pub questions : List (List ℕ)
  pub tokens : List ℕ
  pub earlier : State

-- all inputs were read, and this is their content
pub record AreRead {R : Type 0} (inputs : CheckInputs R) (said : Read) : Type 0 where
  pub bundles : AreBundlesRead inputs.bundles said.bundles
  pub table : IsTableRead inputs.table said.questions
  pub tokens : IsRead inputs.tokens most_bytes said.tokens
  pub earlier : IsEarlier (inputs_of inputs.earlier) said.earlier

-- the outcome of a run: whether all tokens are accepted, the text of the record after the last check, and a line for each
pub record Outcome : Type 0 where
  pub accepted : Bool
  pub kept : List ℕ
  pub lines : List ℕ

-- the outcome as contracts see it
abbrev pub outcome_view : OutcomeMade → Outcome
outcome_view made = record { accepted = made.accepted; kept = record_text made.validator.state; lines = string_bytes made.lines }

-- the setting of the checks, under these bundles and with a verifier that says this
abbrev pub setting_under : CheckSetting → List Bundle → Says → Setting
setting_under given bundles says = record { own = map string_bytes given.own.items; validator_id = given.validator_id; bundles = bundles; says = says; longest = given.longest }

-- the setting of the checks: the verifier says yes to the questions of the table
abbrev pub setting_for : CheckSetting → Read → Setting
setting_for given said = setting_under given said.bundles (table_says said.questions)

-- the outcome of the checks of some tokens
abbrev pub outcome_from : Setting → ℕ → State → List (List ℕ) → Outcome
outcome_from s now earlier tokens = record {
  accepted = are_accepted (judgements s now earlier tokens);
  kept = record_text (record_after s now earlier tokens);
  lines = judgement_lines (judgements s now earlier tokens);
}

-- the outcome of the run: the verdicts on those lines of its tokens that are not empty, in their order
abbrev pub outcome_of : CheckSetting → Read → Outcome
outcome_of given said = outcome_from (setting_for given said) given.now said.earlier (tokens_of (lines_of said.tokens))

-- all inputs were read, and this is the outcome of the run
pub record IsOutcome {R : Type 0} (given : CheckSetting) (inputs : CheckInputs R) (outcome : Outcome) : Type 0 where
  pub said : Read
  pub read : AreRead inputs said
  pub is : outcome ≡ outcome_of given said

-- the sink took the whole text, and keeps what it took
pub record IsKept (keeping : Keeping) (text : List ℕ) : Type 0 where
  pub all : TookAll keeping.sink text
  pub keeps : keeping.kept ≡ keeping.sink.told_after

-- the sink took the whole text, and stopped when it had to keep it
pub record IsUnkept (sink : Taken) (text : List ℕ) : Type 0 where
  pub gained : Appends sink.told_before sink.told_after text
  pub stopped : sink.stops_after ≡ raised sink.stops_before

-- the sink stopped after a part of the text, or when it had to keep the whole: it keeps what it kept before
abbrev pub IsLost : Keeping → List ℕ → Type 0
IsLost keeping text = (TookPart keeping.sink text ⊎ IsUnkept keeping.sink text) × (keeping.kept ≡ keeping.kept_before)

-- the sink, if there is one, keeps the whole text
abbrev pub IsKeptIf : Option Keeping → List ℕ → Type 0
IsKeptIf None text = Unit {0}
IsKeptIf (Some keeping) text = IsKept keeping text

-- the sink, if there is one, stopped before it kept the whole text, and keeps what it kept before
abbrev pub IsLostIf : Option Keeping → List ℕ → Type 0
IsLostIf None text = ⊥
IsLostIf (Some keeping) text = IsLost keeping text

-- the whole record is kept, where there is a sink for it, and each line went out
pub record IsWritten (outputs : CheckOutputs) (outcome : Outcome) : Type 0 where
  pub kept : IsKeptIf outputs.kept outcome.kept
  pub out : TookAll outputs.out outcome.lines

-- a part went out: the record is not kept, what was kept before stays, and no line went out; or the whole record is kept, and a
-- part of the lines went out
abbrev pub IsWrittenInPart : CheckOutputs → Outcome → Type 0
IsWrittenInPart outputs outcome =
    (IsLostIf outputs.kept outcome.kept × TookAll outputs.out [])
    ⊎ (IsKeptIf outputs.kept outcome.kept × TookPart outputs.out outcome.lines)

-- the outcome of the run was written
pub record AreChecked {R : Type 0} (given : CheckSetting) (inputs : CheckInputs R) (outputs : CheckOutputs) (accepted : Bool) : Type 0 where
  pub outcome : Outcome
  pub due : IsOutcome given inputs outcome
  pub written : IsWritten outputs outcome
  pub answer : accepted ≡ outcome.accepted

-- a part of the outcome was written
pub record AreCheckedInPart {R : Type 0} (given : CheckSetting) (inputs : CheckInputs R) (outputs : CheckOutputs) : Type 0 where
  pub outcome : Outcome
  pub due : IsOutcome given inputs outcome
  pub part : IsWrittenInPart outputs outcome

-- why the table is refused: a line is neither empty nor a question, it could not be read, or memory was refused for it
abbrev pub IsTableFault : Drawn → ToolFault → Type 0
IsTableFault input (tool.Table line) = IsTableRefused input line
IsTableFault input tool.OutOfMemory = WantsMemoryFor 2 input
IsTableFault input given = IsUnread 2 input given

-- the number of an input that comes after three more, held at 2^64-1
abbrev pub behind_three : ℕ → ℕ
behind_three number = min (number + 3) (2 ^ 64 - 1)

-- the fault of earlier records, which come after three more inputs
abbrev pub earlier_fault : ToolFault → ToolFault
earlier_fault (tool.Wire input message offset reason) = tool.Wire (behind_three input) message offset reason
earlier_fault (tool.Read input) = tool.Read (behind_three input)
earlier_fault (tool.TooMuch input) = tool.TooMuch (behind_three input)
earlier_fault given = given

-- why the earlier records are refused: one of them is, and those after it are as they were
pub record IsEarlierFault {R : Type 0} (s : Sources R) (fault : ToolFault) : Type 0 where
  pub own : ToolFault
  pub why : IsRefused s own
  pub is : fault ≡ earlier_fault own

-- the table is refused, and the bundles are good
pub record IsSecondRefused {R : Type 0} (inputs : CheckInputs R) (fault : ToolFault) : Type 0 where
  pub bundles : List Bundle
  pub first : AreBundlesRead inputs.bundles bundles
  pub why : IsTableFault inputs.table fault

-- the tokens are refused, and the inputs before them are good
pub record IsThirdRefused {R : Type 0} (inputs : CheckInputs R) (fault : ToolFault) : Type 0 where
  pub bundles : List Bundle
  pub questions : List (List ℕ)
  pub first : AreBundlesRead inputs.bundles bundles
  pub second : IsTableRead inputs.table questions
  pub why : IsUnread 3 inputs.tokens fault

-- an earlier record is refused, and the inputs before it are good
pub record IsFourthRefused {R : Type 0} (inputs : CheckInputs R) (fault : ToolFault) : Type 0 where
  pub bundles : List Bundle
  pub questions : List (List ℕ)
  pub tokens : List ℕ
  pub first : AreBundlesRead inputs.bundles bundles
  pub second : IsTableRead inputs.table questions
  pub third : IsRead inputs.tokens most_bytes tokens
  pub why : IsEarlierFault inputs.earlier fault

-- the first input that is refused
abbrev pub IsOneRefused : {R : Type 0} → CheckInputs R → ToolFault → Type 0
IsOneRefused inputs fault =
    IsBundlesFault inputs.bundles fault
    ⊎ (IsSecondRefused inputs fault ⊎ (IsThirdRefused inputs fault ⊎ IsFourthRefused inputs fault))

-- all inputs were read, and have some content
pub record AreAllRead {R : Type 0} (inputs : CheckInputs R) : Type 0 where
  pub said : Read
  pub read : AreRead inputs said

-- memory was refused: for an input, and those after it are as they were; or for the checks, when all were read
abbrev pub IsWanting : {R : Type 0} → CheckInputs R → Type 0 → Type 0 → Type 0 → Type 0
IsWanting inputs table_kept tokens_kept earlier_kept =
    (IsBundlesFault inputs.bundles tool.OutOfMemory × table_kept × tokens_kept × earlier_kept)
    ⊎ ((IsSecondRefused inputs tool.OutOfMemory × tokens_kept × earlier_kept)
    ⊎ ((IsThirdRefused inputs tool.OutOfMemory × earlier_kept)
    ⊎ (IsFourthRefused inputs tool.OutOfMemory ⊎ AreAllRead inputs)))

-- when the run gives up for another reason than out of memory, which `IsWanting` covers: a sink stopped, or one of its inputs is
-- refused, the first of these
abbrev pub IsCheckFault : {R : Type 0} → CheckSetting → CheckInputs R → CheckOutputs → ToolFault → Type 0
IsCheckFault given inputs outputs tool.Write = AreCheckedInPart given inputs outputs
IsCheckFault given inputs outputs tool.OutOfMemory = Unit {0}
IsCheckFault given inputs outputs fault = IsOneRefused inputs fault

-- the fault is one of the input with this number
abbrev pub IsOfInput : ℕ → ToolFault → Type 0
IsOfInput number (tool.Wire input message offset reason) = input ≡ number
IsOfInput number (tool.Bundles fault) = 1 ≡ number
IsOfInput number (tool.Table line) = 2 ≡ number
IsOfInput number (tool.Read input) = input ≡ number
IsOfInput number (tool.TooMuch input) = input ≡ number
IsOfInput number _ = ⊥
