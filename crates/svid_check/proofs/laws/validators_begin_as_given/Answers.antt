use Rattle.svid_check.proofs.BoundsLemmas.{begins_as_given}
use Rattle.svid_check.proofs.laws.validators_begin_as_given.Goals as goal

pub returns : goal.returns
returns c = begins_as_given
