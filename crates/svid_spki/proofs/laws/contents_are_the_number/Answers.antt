use Rattle.svid_spki.proofs.NumberLemmas.{positive-value}
use Rattle.svid_spki.proofs.laws.contents_are_the_number.Goals as goal

pub returns : goal.returns
returns c = positive-value
