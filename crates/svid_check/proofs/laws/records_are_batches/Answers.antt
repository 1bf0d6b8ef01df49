use Rattle.svid_check.proofs.WholeLemmas.{record_takes_are_takes}
use Rattle.svid_check.proofs.laws.records_are_batches.Goals as goal

pub returns : goal.returns
returns c = record_takes_are_takes
