use Rattle.svid_shards.proofs.BucketsLemmas.{digest_is}
use Rattle.svid_shards.proofs.sharded_uses.ShardedUses.bucket_digest.Goals as goal

pub returns : goal.returns
returns g c = digest_is _ _ c.args.self.now c.args.byte c.args.moment c.bucket.ensures c.digest_of.ensures.digest c.digest_of.ensures.uses
