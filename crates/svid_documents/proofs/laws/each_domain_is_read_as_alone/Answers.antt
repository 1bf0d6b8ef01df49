use Rattle.svid_documents.proofs.LawLemmas.{read_as_alone}
use Rattle.svid_documents.proofs.laws.each_domain_is_read_as_alone.Goals as goal

pub returns : goal.returns
returns c = read_as_alone
