-- The faults of the engines: how other faults become theirs, the exit status of the program after each, and its text.
use Rattle.std.specs.Prelude.{ℕ, List, ◌++◌, codes}
use Rattle.std.specs.Fmt.{decimal}
use Rattle.svid_keys.specs.declared.bundle_fault.BundleFault.{BundleFault}
use Rattle.svid_keys.specs.declared.bundle_fault.BundleFault.TheVariants as bundles
use Rattle.svid_keys.specs.declared.table_fault.TableFault.{TableFault}
use Rattle.svid_keys.specs.declared.table_fault.TableFault.TheVariants as table
use Rattle.svid_wire.specs.declared.reason.Reason.{Reason}
use Rattle.svid_wire.specs.declared.reason.Reason.TheVariants as wire
use Rattle.svid_share.specs.declared.tool_fault.ToolFault.{ToolFault}
use Rattle.svid_share.specs.declared.tool_fault.ToolFault.TheVariants as tool

-- the fault of bundles that are refused: out of memory is a fault of its own
abbrev pub bundle_fault_of : BundleFault → ToolFault
bundle_fault_of bundles.OutOfMemory = tool.OutOfMemory
bundle_fault_of fault = tool.Bundles fault

-- the fault of a table that is refused: out of memory is a fault of its own
abbrev pub table_fault_of : TableFault → ToolFault
table_fault_of (table.Line line) = tool.Table line
table_fault_of table.OutOfMemory = tool.OutOfMemory

-- the exit status after a fault of an engine: 2 where a file, a write or memory failed, and 1 where an input was refused
abbrev pub status_of : ToolFault → ℕ
status_of (tool.Read input) = 2
status_of (tool.TooMuch input) = 2
status_of tool.Write = 2
status_of tool.OutOfMemory = 2
status_of _ = 1

-- the name of the reason for which a message is bad
abbrev pub reason_name : Reason → List ℕ
reason_name wire.Magic = codes "Magic"
reason_name wire.Kind = codes "Kind"
reason_name wire.Count = codes "Count"
reason_name wire.UseKind = codes "UseKind"
reason_name wire.UseExpired = codes "UseExpired"
reason_name wire.UseFuture = codes "UseFuture"
reason_name wire.UseOrder = codes "UseOrder"
reason_name wire.Truncated = codes "Truncated"
reason_name wire.OutOfMemory = codes "OutOfMemory"
reason_name wire.Failed = codes "Failed"

-- the text for bundles that are refused
abbrev pub bundles_text : BundleFault → List ℕ
bundles_text bundles.NotObject = codes "svid: bundles: NotObject"
bundles_text (bundles.Domain index) = codes "svid: bundles: Domain(" ++ decimal index ++ codes ")"
bundles_text (bundles.Keys index) = codes "svid: bundles: Keys(" ++ decimal index ++ codes ")"
bundles_text bundles.OutOfMemory = codes "svid: out of memory"

-- the text of a fault, as the program prints it on standard error
abbrev pub fault_text : ToolFault → List ℕ
fault_text (tool.Wire input message offset reason) =
    codes "svid: input " ++ decimal input ++ codes " message " ++ decimal message ++ codes " place " ++ decimal offset ++ codes ": " ++ reason_name reason
fault_text tool.NotSummary = codes "svid: not one summary"
fault_text (tool.Bundles fault) = bundles_text fault
fault_text (tool.Table line) = codes "svid: table: line " ++ decimal line
fault_text (tool.Read input) = codes "svid: cannot read input " ++ decimal input
fault_text (tool.TooMuch input) = codes "svid: input " ++ decimal input ++ codes " too long"
fault_text tool.Write = codes "svid: cannot write"
fault_text tool.OutOfMemory = codes "svid: out of memory"
