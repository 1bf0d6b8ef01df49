use Rattle.svid_documents.proofs.LawLemmas.{joined_read}
use Rattle.svid_documents.proofs.laws.joined_text_is_read.Goals as goal

pub returns : goal.returns
returns c = joined_read
