use Rattle.svid_replay.proofs.PartsLemmas.{parts_are_batches, same_parts_same_record, parts_give_record}
use Rattle.svid_replay.proofs.laws.parts_tell_the_record.Goals as goal

pub returns : goal.returns
returns c = record { batches = parts_are_batches; same = same_parts_same_record; absorbed = parts_give_record }
