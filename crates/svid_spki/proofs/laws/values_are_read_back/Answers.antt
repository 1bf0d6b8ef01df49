use Rattle.svid_spki.proofs.SpkiLemmas.{der-unique}
use Rattle.svid_spki.proofs.laws.values_are_read_back.Goals as goal

pub returns : goal.returns
returns c = der-unique
