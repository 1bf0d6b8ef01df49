use Rattle.svid_share.proofs.JoinedLemmas.{parts_come_to_record, parts_stand_for_batches}
use Rattle.svid_share.proofs.laws.parts_stand_for_batches.Goals as goal

pub returns : goal.returns
returns c = record { whole = parts_come_to_record; merged = parts_stand_for_batches }
