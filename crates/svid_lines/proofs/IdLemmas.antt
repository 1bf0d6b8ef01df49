use Rattle.std.proofs.Common.{◌≡◌, List, ℕ, true, false, Option, None, Some, refl, sym, subst}
use Rattle.std.specs.Prelude.{is_none, if◌then◌else◌}
use Rattle.svid_id.specs.Id.{IdParts, IsId, is_id, id_fault, parts_of}
use Rattle.svid_id.specs.declared.id_fault.IdFault.{IdFault}
use Rattle.svid_id.proofs.IdLemmas.{id_fault-IsId, id_parts-IsId}
use Rattle.svid_lines.specs.Id.{parts_lines, refused_line, answer_of, id_answer}

-- the answer where the text is an ID
pub answer-IsId : (text : List ℕ) (id : IdParts) → IsId text id → (true ≡ is_id text) × (parts_lines id ≡ id_answer text)
unfolding id_answer
answer-IsId text id is = (
  sym (subst (λ (o : Option IdFault). is_none o ≡ true) (sym (id_fault-IsId text id is)) refl),
  sym (subst (λ (o : Option IdParts). answer_of o (id_fault text) ≡ parts_lines id) (sym (id_parts-IsId text id is)) refl),
)

-- the answer where it has this fault
pub answer-fault : (text : List ℕ) (fault : IdFault) → id_fault text ≡ Some fault → (false ≡ is_id text) × (refused_line fault ≡ id_answer text)
unfolding id_answer
answer-fault text fault is = (
  sym (subst (λ (o : Option IdFault). is_none o ≡ false) (sym is) refl),
  sym (subst (λ (o : Option IdFault). answer_of (if is_none o then Some (parts_of text) else None) o ≡ refused_line fault) (sym is) refl),
)
