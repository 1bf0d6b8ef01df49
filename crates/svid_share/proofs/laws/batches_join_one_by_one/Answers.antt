use Rattle.svid_share.proofs.JoinedLemmas.{joined_from_nothing, joined_is_record, joined_one_by_one}
use Rattle.svid_share.proofs.laws.batches_join_one_by_one.Goals as goal

pub returns : goal.returns
returns c = record { joined = joined_from_nothing; goes_on = joined_one_by_one; is_record = joined_is_record }
