use Rattle.svid_wire.proofs.MessagesLemmas.{no_text_is_longer}
use Rattle.svid_wire.proofs.laws.no_text_is_longer.Goals as goal

pub returns : goal.returns
returns c = no_text_is_longer
