use Rattle.std.proofs.Common.{◌∙◌, ap, sym}
use Rattle.svid_replay.specs.Hashers.{digests_in}
use Rattle.svid_replay.proofs.BucketsLemmas.{digests_in-rising}
use Rattle.svid_replay.proofs.WalksLemmas.{walk_ends}
use Rattle.svid_replay.proofs.buckets.digests_of.Goals as goal

pub loop-used-preserved : goal.loop-used-preserved
loop-used-preserved g c = c.take_use.ensures _ c.loop-used.invariant

pub returns : goal.returns
returns g c =
    c.finish_all.ensures _ c.loop-used.invariant ∙ ap digests_in (sym (walk_ends _ _ _ _ _ c.walk-used-items.ensures c.into_iter-used-iterator.ensures.into_iter_gives c.loop-used.yielded_by c.in-None.ensures.steps.0)) ∙ digests_in-rising _
