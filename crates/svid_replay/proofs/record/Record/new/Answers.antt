use Rattle.svid_replay.proofs.RecordsLemmas.{new_is_record}
use Rattle.svid_replay.proofs.record.Record.new.Goals as goal

pub invariant_of-result : goal.invariant_of-result
invariant_of-result g c = new_is_record _ c.requires
