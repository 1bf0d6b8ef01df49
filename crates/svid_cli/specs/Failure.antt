-- What the program writes on standard error: the line of a failure, and the sentence for it.
use Rattle.std.specs.Prelude.{ℕ, List, [], ◌∷◌, ◌++◌, ◌==◌, ◌&&◌, not, if◌then◌else◌, codes, Option, None, Some}
use Rattle.svid_keys.specs.declared.bundle_fault.BundleFault.{BundleFault}
use Rattle.svid_keys.specs.declared.bundle_fault.BundleFault.TheVariants as bundles
use Rattle.svid_wire.specs.declared.reason.Reason.{Reason}
use Rattle.svid_wire.specs.declared.reason.Reason.TheVariants as wire
use Rattle.svid_share.specs.declared.tool_fault.ToolFault.{ToolFault}
use Rattle.svid_share.specs.declared.tool_fault.ToolFault.TheVariants as tool
use Rattle.svid_share.specs.Faults.{fault_text, status_of}
use Rattle.svid_cli.specs.Sentence.{sentence_text}
use Rattle.svid_cli.specs.declared.failure.Failure.{Failure}
use Rattle.svid_cli.specs.declared.failure.Failure.TheVariants as failure
use Rattle.svid_cli.specs.declared.sentence.HexByte.{HexByte}
use Rattle.svid_cli.specs.declared.sentence.Sentence.{Sentence}
use Rattle.svid_cli.specs.declared.sentence.Sentence.TheVariants as says
use Rattle.svid_cli.specs.declared.sentence.Words.{Words}

-- the sentence for a bad message
abbrev pub message_sentence : ℕ → ℕ → Reason → Sentence
message_sentence message offset reason = says.Message (record { message = message; offset = offset; reason = reason })

-- the sentence for an input whose first message does not begin with the four bytes of one, by the first of them
abbrev pub magic_sentence : Option ℕ → ℕ → ℕ → Sentence
magic_sentence (Some byte) message offset = if (message == 1) && not (byte == 74) then says.NotJsr (record { 0 = byte }) else message_sentence message offset wire.Magic
magic_sentence None message offset = message_sentence message offset wire.Magic

-- the sentence for bundles that are refused
abbrev pub bundles_sentence : BundleFault → Sentence
bundles_sentence bundles.NotObject = says.BundlesNotObject
bundles_sentence (bundles.Domain index) = says.BundlesDomain index
bundles_sentence (bundles.Keys index) = says.BundlesKeys index
bundles_sentence bundles.OutOfMemory = says.OutOfMemory

-- the sentence for a fault of an engine, by the first byte of its input, where that is known
abbrev pub tool_sentence : ToolFault → Option ℕ → Sentence
tool_sentence (tool.Wire input message offset wire.Magic) first = magic_sentence first message offset
tool_sentence (tool.Wire input message offset reason) first = message_sentence message offset reason
tool_sentence tool.NotSummary first = says.NotSummary
tool_sentence (tool.Bundles fault) first = bundles_sentence fault
tool_sentence (tool.Table line) first = says.BadTable (record { line = line })
tool_sentence (tool.Read input) first = says.CannotRead
tool_sentence (tool.TooMuch input) first = says.TooLong
tool_sentence tool.Write first = says.CannotWrite
tool_sentence tool.OutOfMemory first = says.OutOfMemory

-- the sentence for a failure
abbrev pub sentence_of : Failure → Sentence
sentence_of (failure.Tool fault first) = tool_sentence fault first
sentence_of (failure.CannotOpen name) = says.CannotOpen
sentence_of failure.Unnamed = says.BundlesUnnamed
sentence_of failure.BadValidatorId = says.BadPlace

-- the number of the input that an engine's fault is about, 0 where it is about none
abbrev pub tool_input : ToolFault → ℕ
tool_input (tool.Wire input message offset reason) = input
tool_input tool.NotSummary = 1
tool_input (tool.Bundles fault) = 1
tool_input (tool.Table line) = 2
tool_input (tool.Read input) = input
tool_input (tool.TooMuch input) = input
tool_input _ = 0

-- the same for a failure
abbrev pub input_of : Failure → ℕ
input_of (failure.Tool fault first) = tool_input fault
input_of failure.Unnamed = 1
input_of _ = 0

-- the exit status
abbrev pub failure_status : Failure → ℕ
failure_status (failure.Tool fault first) = status_of fault
failure_status failure.Unnamed = 1
failure_status _ = 2

-- the line for a file that could not be opened, without its line end
abbrev pub unopened_line : List ℕ → List ℕ
unopened_line name = codes "svid: cannot open " ++ name

-- the line of a failure, without its line end
abbrev pub failure_line : Failure → List ℕ
failure_line (failure.Tool fault first) = fault_text fault
failure_line (failure.CannotOpen name) = unopened_line name.items
failure_line failure.Unnamed = codes "svid: bundles: Unnamed"
failure_line failure.BadValidatorId = codes "svid: bad place"

-- the line of a sentence, where one was requested
abbrev pub words_line : Option Words → List ℕ
words_line (Some words) = sentence_text words.sentence words.input.now ++ 10 ∷ []
words_line None = []

-- the whole output: the line, followed by the sentence where one was requested
abbrev pub written : Failure → Option Words → List ℕ
written failure words = failure_line failure ++ 10 ∷ words_line words
