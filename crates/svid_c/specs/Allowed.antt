-- What a call answers about a pattern and an ID.
use Rattle.std.specs.Prelude.{◌≡◌, ℕ, List, length, Some}
use Rattle.svid_id.specs.Id.{IdParts, IsId, id_fault}
use Rattle.svid_id.specs.declared.id_fault.IdFault.{IdFault}
use Rattle.svid_id.specs.declared.id_fault.IdFault.TheVariants as id
use Rattle.svid_allow.specs.Allows.{Allows}
use Rattle.svid_allow.specs.Pattern.{IsPattern, PatternParts, pattern_fault}
use Rattle.svid_c.specs.Status.{id_number, id_offset}
use Rattle.svid_c.specs.declared.id_parse.SvidId.{SvidId}

-- why a text is no pattern
abbrev pub pattern_number : IdFault → ℕ
pattern_number id.OutOfMemory = 2
pattern_number id.TooLong = 92
pattern_number id.Scheme = 93
pattern_number id.DomainEmpty = 94
pattern_number (id.DomainByte offset) = 95
pattern_number id.DomainLong = 96
pattern_number (id.SegmentEmpty offset) = 97
pattern_number (id.SegmentDots offset) = 98
pattern_number (id.PathByte offset) = 99

-- the answer for an ID, and for a fault
abbrev pub parts_told : IdParts → SvidId
parts_told id = record { offset = 0; domain_len = length id.domain; path_len = length id.path }

abbrev pub offset_told : ℕ → SvidId
offset_told offset = record { offset = offset; domain_len = 0; path_len = 0 }

-- the status for a pattern and an ID, and the answer beside it; the pattern's fault comes before the ID's
pub data MayCall (pattern id : List ℕ) (status : ℕ) (told : SvidId) : Type 0 where
  allowed : (p : PatternParts) (i : IdParts) → IsPattern pattern p → IsId id i → Allows p i → status ≡ 0 → told ≡ parts_told i → MayCall pattern id status told
  not_allowed : (p : PatternParts) (i : IdParts) → IsPattern pattern p → IsId id i → ¬ Allows p i → status ≡ 91 → told ≡ parts_told i → MayCall pattern id status told
  no_pattern : (fault : IdFault) → pattern_fault pattern ≡ Some fault → status ≡ pattern_number fault → told ≡ offset_told (id_offset fault) → MayCall pattern id status told
  no_id : (p : PatternParts) (fault : IdFault) → IsPattern pattern p → id_fault id ≡ Some fault → status ≡ id_number fault → told ≡ offset_told (id_offset fault) → MayCall pattern id status told
  no_memory : status ≡ 2 → told ≡ offset_told 0 → MayCall pattern id status told
