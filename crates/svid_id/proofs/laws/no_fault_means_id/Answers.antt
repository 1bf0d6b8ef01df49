use Rattle.std.proofs.Common.{sym, ◌∙◌}
use Rattle.svid_id.specs.Id.{parts_of}
use Rattle.svid_id.proofs.IdLemmas.{IsId-from_fault, IsId-from_parts, id_fault-IsId, id_fault-memory, id_parts-IsId, parts_of-IsId}
use Rattle.svid_id.proofs.laws.no_fault_means_id.Goals as goal

pub returns-clause-exactly : goal.returns-clause-exactly
returns-clause-exactly c =
    λ text. (λ none. (parts_of text, IsId-from_fault text none), λ (id, is). id_fault-IsId text id is)

pub returns-clause-unique : goal.returns-clause-unique
returns-clause-unique c =
    λ text one other is also. sym (parts_of-IsId text one is) ∙ parts_of-IsId text other also

pub returns-clause-parts : goal.returns-clause-parts
returns-clause-parts c = λ text id. (IsId-from_parts text id, id_parts-IsId text id)

pub returns-clause-no_memory : goal.returns-clause-no_memory
returns-clause-no_memory c = id_fault-memory
