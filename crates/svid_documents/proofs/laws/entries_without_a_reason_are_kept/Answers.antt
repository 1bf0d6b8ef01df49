use Rattle.svid_documents.proofs.EntryLemmas.{same_texts}
use Rattle.svid_documents.proofs.laws.entries_without_a_reason_are_kept.Goals as goal

pub returns : goal.returns
returns c = same_texts
