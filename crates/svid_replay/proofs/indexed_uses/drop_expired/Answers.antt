use Rattle.std.proofs.Common.{false, cond, arith, refl, ap, ◌∙◌}
use Rattle.std.specs.Ordering.{eq_by_cmp}
use Rattle.svid_replay.specs.Indexed.{key_first_cmp, has_key_first}
use Rattle.svid_replay.proofs.IndexedLemmas.{drops_more, drops_fewer, dropped_all, dropped_count}
use Rattle.svid_replay.proofs.indexed_uses.drop_expired.Goals as goal

pub loop-used-init : goal.loop-used-init
loop-used-init c = record { indexed = c.requires; left = refl; fewer = omega arith }

pub loop-used-smaller : goal.loop-used-smaller
loop-used-smaller c = drops_fewer c.args.moment c.loop-used.by_use.keys _ c.in-Some.used c.in-Some.ensures c.remove.ensures.keys

pub loop-used-preserved : goal.loop-used-preserved
loop-used-preserved c =
    drops_more c.args.moment _ c.loop-used.by_use.keys _ _ _ c.in-Some.used c.loop-used.invariant c.in-Some.ensures c.remove.ensures.keys c.remove-in-Some.ensures.ordered (λ k. c.remove-in-Some.ensures.updates.0 k ∙ ap (λ f. cond (eq_by_cmp key_first_cmp f k) false (has_key_first c.loop-used.by_key.keys k)) c.of.ensures)

pub returns-clause-kept : goal.returns-clause-kept
returns-clause-kept c = dropped_all c.args.moment _ _ _ c.loop-used.invariant c.in_default.ensures

pub returns-clause-dropped : goal.returns-clause-dropped
returns-clause-dropped c = dropped_count c.args.moment _ _ _ _ _ c.requires c.loop-used.invariant (omega (arith, c.loop-used.invariant.fewer))
