use Rattle.std.proofs.Common.{◌∙◌}
use Rattle.std.proofs.lemmas.Result.{IfOk-weaker}
use Rattle.svid_shards.proofs.BucketsLemmas.{uses_are}
use Rattle.svid_shards.proofs.sharded_uses.ShardedUses.bucket_uses.Goals as goal

pub returns : goal.returns
returns g c =
    let here = g.S.UseStore.content c.bucket.result.now in
    IfOk-weaker c.live_of.result _ _ (λ uses are. are ∙ uses_are here c.args.self.now c.args.byte c.args.moment c.bucket.ensures) c.live_of.ensures
