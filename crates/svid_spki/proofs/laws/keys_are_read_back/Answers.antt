use Rattle.svid_spki.proofs.SpkiLemmas.{ec-same, rsa-apart, rsa-same}
use Rattle.svid_spki.proofs.laws.keys_are_read_back.Goals as goal

pub returns : goal.returns
returns c = record { rsa = rsa-same; ec = ec-same; apart = rsa-apart }
