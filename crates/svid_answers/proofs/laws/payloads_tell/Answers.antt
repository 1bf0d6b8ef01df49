use Rattle.svid_answers.proofs.PayloadsLemmas.{pieces_tell, starts_know}
use Rattle.svid_answers.proofs.laws.payloads_tell.Goals as goal

pub returns : goal.returns
returns c = record { pieces = pieces_tell; starts = starts_know }
