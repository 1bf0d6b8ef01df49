use Rattle.svid_replay.proofs.PartsLemmas.{parts_give_record}
use Rattle.svid_wire.proofs.laws.parts_tell_record.Goals as goal

pub returns : goal.returns
returns c = parts_give_record
