use Rattle.std.proofs.Common.{◌∙◌, ◌≤◌, ap, arith, length, sym}
use Rattle.std.specs.List.{filter}
use Rattle.svid_replay.specs.Buckets.{differ_at}
use Rattle.svid_replay.proofs.BucketsLemmas.{kept_stale}
use Rattle.svid_replay.proofs.StaleLemmas.{counts_all, counts_in, counts_out, counts_some}
use Rattle.svid_replay.proofs.WalksLemmas.{walk_ends, walk_takes}
use Rattle.svid_replay.proofs.stale.Stale.of.Goals as goal

pub loop-used-init : goal.loop-used-init
loop-used-init g c = record { value = omega (arith, c.len-left.ensures) }

pub overflow_sub-left : goal.overflow_sub-left
overflow_sub-left g c = counts_some _ _ _ _ _ _ c.loop-used.invariant (walk_takes _ _ _ _ _ _ _ c.walk-used-items.ensures c.into_iter-used-iterator.ensures.into_iter_gives c.loop-used.yielded_by c.in-Some.ensures.steps)

pub loop-used-preserved-then-not-differs : goal.loop-used-preserved-then-not-differs
loop-used-preserved-then-not-differs g c =
    let one : 1 ≤ c.loop-used.left = overflow_sub-left g c in
    counts_out _ _ _ _ c.loop-used.left _ c.loop-used.invariant (sym c.differs.ensures ∙ c.if-not-differs.true) (omega (arith, one))

pub loop-used-preserved : goal.loop-used-preserved
loop-used-preserved g c = counts_in _ _ _ _ _ c.loop-used.invariant (sym c.differs.ensures ∙ c.if-not-differs.false)

pub invariant_of-result : goal.invariant_of-result
invariant_of-result g c =
    counts_all _ _ _ _ c.loop-used.invariant (walk_ends _ _ _ _ _ c.walk-used-items.ensures c.into_iter-used-iterator.ensures.into_iter_gives c.loop-used.yielded_by c.in-None.ensures.steps.0)
    ∙ ap (λ us. length (filter (differ_at c.digests_of-digests.result c.args.summary.now.digests) us)) (sym c.walk.ensures)

pub returns : goal.returns
returns g c = kept_stale _ _ _ _ c.digests_of-digests.ensures c.walk.ensures
