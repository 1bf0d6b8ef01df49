use Rattle.svid_replay.proofs.BucketsLemmas.{bucket_holds_its_uses, stale_holds_differing}
use Rattle.svid_replay.proofs.laws.buckets_hold.Goals as goal

pub returns : goal.returns
returns c = record { bucket = bucket_holds_its_uses; stale = stale_holds_differing }
