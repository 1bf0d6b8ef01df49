-- What `svid id` prints.
use Rattle.std.specs.Prelude.{ℕ, List, [], ◌∷◌, ◌++◌, codes, length, ◌==◌, if◌then◌else◌, Option, None, Some}
use Rattle.std.specs.Fmt.{decimal}
use Rattle.svid_id.specs.Id.{IdParts, id_parts, id_fault}
use Rattle.svid_id.specs.declared.id_fault.IdFault.{IdFault}
use Rattle.svid_id.specs.declared.id_fault.IdFault.TheVariants as fault
use Rattle.svid_wire.specs.Streams.{Taken, TookPart}
use Rattle.svid_share.specs.declared.tool_fault.ToolFault.{ToolFault}
use Rattle.svid_share.specs.declared.tool_fault.ToolFault.TheVariants as tool

-- a name with an offset in round brackets
abbrev pub placed : List ℕ → ℕ → List ℕ
placed name offset = name ++ 40 ∷ [] ++ decimal offset ++ 41 ∷ []

-- the name of a fault of a text, with its offset where it has one; out of memory has none
abbrev pub fault_name : IdFault → List ℕ
fault_name fault.TooLong = codes "TooLong"
fault_name fault.Scheme = codes "Scheme"
fault_name fault.DomainEmpty = codes "DomainEmpty"
fault_name (fault.DomainByte offset) = placed (codes "DomainByte") offset
fault_name fault.DomainLong = codes "DomainLong"
fault_name (fault.SegmentEmpty offset) = placed (codes "SegmentEmpty") offset
fault_name (fault.SegmentDots offset) = placed (codes "SegmentDots") offset
fault_name (fault.PathByte offset) = placed (codes "PathByte") offset
fault_name fault.OutOfMemory = []

-- the line of a path: none where it is empty
abbrev pub path_line : List ℕ → List ℕ
path_line path = if length path == 0 then [] else codes "path " ++ path ++ 10 ∷ []

-- the lines of an ID
abbrev pub parts_lines : IdParts → List ℕ
parts_lines parts = codes "domain " ++ parts.domain ++ 10 ∷ path_line parts.path

-- the line of a text that is no ID
abbrev pub refused_line : IdFault → List ℕ
refused_line fault = codes "refused " ++ fault_name fault ++ 10 ∷ []

-- the answer for a text: these parts, where it is an ID, or else this fault
abbrev pub answer_of : Option IdParts → Option IdFault → List ℕ
answer_of (Some parts) fault = parts_lines parts
answer_of None (Some fault) = refused_line fault
answer_of None None = []

-- the answer for a text: the parts of its ID, or why it is none
unfoldable pub id_answer : List ℕ → List ℕ
id_answer text = answer_of (id_parts text) (id_fault text)

-- the engine gives up because its sink stopped, which took a part of the answer, or because it ran out of memory; for no other
-- reason
abbrev pub IsIdEngineFault : Taken → List ℕ → ToolFault → Type 0
IsIdEngineFault out answer tool.Write = TookPart out answer
IsIdEngineFault out answer tool.OutOfMemory = Unit {0}
IsIdEngineFault out answer _ = ⊥
