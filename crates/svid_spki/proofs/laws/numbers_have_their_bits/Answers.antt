use Rattle.svid_spki.proofs.NumberLemmas.{bits-are}
use Rattle.svid_spki.proofs.laws.numbers_have_their_bits.Goals as goal

pub returns : goal.returns
returns c = bits-are
