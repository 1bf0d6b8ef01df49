use Rattle.svid_id.proofs.IdLemmas.{id_fault-memory}
use Rattle.svid_allow.specs.Pattern.{id_in, pattern_of}
use Rattle.svid_allow.proofs.PatternLemmas.{IsPattern-again, IsPattern-from_fault, IsPattern-from_parts, IsPattern-short, IsPattern-unique, pattern_fault-IsPattern, pattern_parts-IsPattern}
use Rattle.svid_allow.proofs.laws.no_fault_means_pattern.Goals as goal

pub returns-clause-exactly : goal.returns-clause-exactly
returns-clause-exactly c =
    λ text. (λ none. (pattern_of text, IsPattern-from_fault text none), λ (pattern, is). pattern_fault-IsPattern text pattern is)

pub returns-clause-unique : goal.returns-clause-unique
returns-clause-unique c = IsPattern-unique

pub returns-clause-no_memory : goal.returns-clause-no_memory
returns-clause-no_memory c = λ text. id_fault-memory (id_in text)

pub returns-clause-parts : goal.returns-clause-parts
returns-clause-parts c = λ text pattern. (IsPattern-from_parts text pattern, pattern_parts-IsPattern text pattern)

pub returns-clause-again : goal.returns-clause-again
returns-clause-again c = IsPattern-again

pub returns-clause-short : goal.returns-clause-short
returns-clause-short c = IsPattern-short
