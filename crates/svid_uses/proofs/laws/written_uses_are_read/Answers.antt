use Rattle.svid_uses.proofs.TextsLemmas.{written_are_read}
use Rattle.svid_uses.proofs.laws.written_uses_are_read.Goals as goal

pub returns : goal.returns
returns c = written_are_read
