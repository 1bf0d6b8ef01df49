use Rattle.std.proofs.Common.{arith}
use Rattle.std.proofs.lemmas.List.{length-replicate}
use Rattle.svid_replay.proofs.BucketsLemmas.{digests_are, finished_none, finished_more}
use Rattle.svid_replay.proofs.buckets.finish_all.Goals as goal

pub loop-bucket-init : goal.loop-bucket-init
loop-bucket-init c us held = finished_none us _ _ held (length-replicate 256 c.empty_digest-empty.result)

pub loop-bucket-preserved : goal.loop-bucket-preserved
loop-bucket-preserved c us held =
    let so_far = c.loop-bucket.invariant us held in
    finished_more us _ _ _ _ _ so_far c.loop-bucket-test.true (c.finish.ensures _ c.empty_digest-empty.ensures (so_far.left c.loop-bucket.bucket _ (omega arith) c.loop-bucket-test.true))

pub returns : goal.returns
returns c us held =
    let so_far = c.loop-bucket.invariant us held in
    digests_are _ us so_far.long (λ b d within. so_far.done b d (omega (arith, within, c.loop-bucket-test.false)))
