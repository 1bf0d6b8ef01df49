use Rattle.svid_group.proofs.OnceLemmas.{accepted_is_first, accepted_is_held, accepted_is_unrefused}
use Rattle.svid_group.proofs.laws.accepted_claims_are_first.Goals as goal

pub returns : goal.returns
returns c = record { first = accepted_is_first; held = accepted_is_held; unrefused = accepted_is_unrefused }
