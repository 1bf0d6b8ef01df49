use Rattle.svid_log.proofs.ValuesLemmas.{values_are_read, values_have_one_reading}
use Rattle.svid_log.proofs.laws.values_are_read_alike.Goals as goal

pub returns : goal.returns
returns c = record { uses = values_have_one_reading; log = values_are_read }
