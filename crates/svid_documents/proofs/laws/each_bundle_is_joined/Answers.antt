use Rattle.svid_documents.proofs.LawLemmas.{each_kept}
use Rattle.svid_documents.proofs.laws.each_bundle_is_joined.Goals as goal

pub returns : goal.returns
returns c = each_kept
