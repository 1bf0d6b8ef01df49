use Rattle.std.proofs.Common.{◌∙◌, ap, not}
use Rattle.std.specs.Ordering.{is_eq}
use Rattle.svid_shards.proofs.BucketsLemmas.{differs_is}
use Rattle.svid_shards.proofs.sharded_uses.ShardedUses.bucket_differs.Goals as goal

pub returns : goal.returns
returns g c = ap not (c.is_eq.ensures ∙ ap is_eq c.cmp.ensures) ∙ differs_is c.bucket_digest-own.result c.args.digest.now c.args.byte c.args.moment c.args.self.now c.bucket_digest-own.ensures
