-- Lemmas about specs/Allowed.antt.
use Rattle.std.proofs.Common.{◌≡◌, ◌⊎◌, inl, inr, ℕ, List, Option, Some, None, unwrap_or, sym, ap, ◌∙◌}
use Rattle.svid_id.specs.Id.{id_fault}
use Rattle.svid_id.specs.declared.id_fault.IdFault.{IdFault}
use Rattle.svid_id.specs.declared.id_fault.IdFault.TheVariants.{OutOfMemory}
use Rattle.svid_allow.specs.Pattern.{IsPattern, PatternParts, pattern_fault}
use Rattle.svid_c.specs.Allowed.{MayCall, no_id, no_memory, no_pattern, pattern_number, offset_told}
use Rattle.svid_c.specs.Status.{id_number, id_offset}
use Rattle.svid_c.specs.declared.id_parse.SvidId.{SvidId}

-- a fault in an answer is the text's own, or memory was refused
answered : (fault : IdFault) (due : Option IdFault) → fault ≡ unwrap_or due OutOfMemory
    → (due ≡ Some fault) ⊎ (fault ≡ OutOfMemory)
answered fault None is = inr is
answered fault (Some due) is = inl (ap Some (sym is))

-- so for a pattern that could not be read, it is the answer
pub pattern_unread : (pattern id : List ℕ) (fault : IdFault) (status offset : ℕ) (told : SvidId)
    → fault ≡ unwrap_or (pattern_fault pattern) OutOfMemory → status ≡ pattern_number fault → offset ≡ id_offset fault
    → told ≡ offset_told offset → MayCall pattern id status told
pattern_unread pattern id fault status offset told is number at shown =
    elim (answered fault (pattern_fault pattern) is) [
      | inl due ↦ no_pattern fault due number (shown ∙ ap offset_told at)
      | inr memory ↦ no_memory (number ∙ ap pattern_number memory) (shown ∙ ap offset_told (at ∙ ap id_offset memory))
    ]

-- and of an ID that could not be
pub id_unread : (pattern id : List ℕ) (parts : PatternParts) (fault : IdFault) (status offset : ℕ) (told : SvidId)
    → IsPattern pattern parts → fault ≡ unwrap_or (id_fault id) OutOfMemory → status ≡ id_number fault
    → offset ≡ id_offset fault → told ≡ offset_told offset → MayCall pattern id status told
id_unread pattern id parts fault status offset told read is number at shown =
    elim (answered fault (id_fault id) is) [
      | inl due ↦ no_id parts fault read due number (shown ∙ ap offset_told at)
      | inr memory ↦ no_memory (number ∙ ap id_number memory) (shown ∙ ap offset_told (at ∙ ap id_offset memory))
    ]
