-- The numbers that tell C how a call ended: 0 if it succeeded.
use Rattle.std.specs.Prelude.{ℕ, Bool, if◌then◌else◌}
use Rattle.svid_id.specs.declared.id_fault.IdFault.{IdFault}
use Rattle.svid_id.specs.declared.id_fault.IdFault.TheVariants as id
use Rattle.svid_keys.specs.declared.bundle_fault.BundleFault.{BundleFault}
use Rattle.svid_keys.specs.declared.bundle_fault.BundleFault.TheVariants as bundles
use Rattle.svid_wire.specs.declared.reason.Reason.{Reason}
use Rattle.svid_wire.specs.declared.reason.Reason.TheVariants as wire
use Rattle.svid_share.specs.declared.tool_fault.ToolFault.{ToolFault}
use Rattle.svid_share.specs.declared.tool_fault.ToolFault.TheVariants as tool
use Rattle.svid_c.specs.declared.told.SvidTold.{SvidTold}

-- why a text is no ID
abbrev pub id_number : IdFault → ℕ
id_number id.OutOfMemory = 2
id_number id.TooLong = 21
id_number id.Scheme = 22
id_number id.DomainEmpty = 23
id_number (id.DomainByte offset) = 24
id_number id.DomainLong = 25
id_number (id.SegmentEmpty offset) = 26
id_number (id.SegmentDots offset) = 27
id_number (id.PathByte offset) = 28

-- the offset of an ID's fault, 0 where it has none
abbrev pub id_offset : IdFault → ℕ
id_offset (id.DomainByte offset) = offset
id_offset (id.SegmentEmpty offset) = offset
id_offset (id.SegmentDots offset) = offset
id_offset (id.PathByte offset) = offset
id_offset _ = 0

-- why bytes are no messages
abbrev pub reason_number : Reason → ℕ
reason_number wire.OutOfMemory = 2
reason_number wire.Failed = 2
reason_number wire.Magic = 11
reason_number wire.Kind = 12
reason_number wire.Count = 13
reason_number wire.UseKind = 14
reason_number wire.UseExpired = 15
reason_number wire.UseFuture = 16
reason_number wire.UseOrder = 17
reason_number wire.Truncated = 18

-- why bytes are no bundles
abbrev pub bundles_number : BundleFault → ℕ
bundles_number bundles.OutOfMemory = 2
bundles_number bundles.NotObject = 31
bundles_number (bundles.Domain index) = 32
bundles_number (bundles.Keys index) = 33

-- why a call gave up; no input is read from a stream, and no output goes to one, but memory may be refused for it
abbrev pub fault_number : ToolFault → ℕ
fault_number (tool.Wire input message offset reason) = reason_number reason
fault_number tool.NotSummary = 4
fault_number (tool.Bundles fault) = bundles_number fault
fault_number (tool.Table line) = 34
fault_number (tool.Read input) = 2
fault_number (tool.TooMuch input) = 3
fault_number tool.Write = 2
fault_number tool.OutOfMemory = 2

-- the answer about a text that a call wrote, or has no room for: its length
abbrev pub told_length : ℕ → SvidTold
told_length len = record { len = len; input = 0; message = 0; offset = 0; more = 0 }

-- a truth as C has it
abbrev pub flag : Bool → ℕ
flag b = if b then 1 else 0

-- the answer about rows that were written, or have no room: the length of their text, and whether there are more
abbrev pub told_rows : ℕ → Bool → SvidTold
told_rows len more = record { len = len; input = 0; message = 0; offset = 0; more = flag more }

-- the offset of a fault of bundles: that of the name among all names in rising order of their bytes, from 0
abbrev pub bundles_index : BundleFault → ℕ
bundles_index (bundles.Domain index) = index
bundles_index (bundles.Keys index) = index
bundles_index _ = 0

-- the answer about a fault: for messages, the number of the input and of the message in it, and the offset in that; else an
-- offset
abbrev pub told_fault : ToolFault → SvidTold
told_fault (tool.Wire input message offset reason) = record { len = 0; input = input; message = message; offset = offset; more = 0 }
told_fault (tool.Bundles fault) = record { len = 0; input = 0; message = 0; offset = bundles_index fault; more = 0 }
told_fault (tool.Table line) = record { len = 0; input = 0; message = 0; offset = line; more = 0 }
told_fault (tool.TooMuch input) = record { len = 0; input = input; message = 0; offset = 0; more = 0 }
told_fault _ = record { len = 0; input = 0; message = 0; offset = 0; more = 0 }
