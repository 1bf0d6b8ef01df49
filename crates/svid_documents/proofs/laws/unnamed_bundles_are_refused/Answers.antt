use Rattle.svid_documents.proofs.UnnamedLemmas.{unread}
use Rattle.svid_documents.proofs.laws.unnamed_bundles_are_refused.Goals as goal

pub returns-clause-unread : goal.returns-clause-unread
returns-clause-unread c = unread
