use Rattle.std.proofs.Common.{arith}
use Rattle.svid_shards.proofs.ShardsLemmas.{all_left, swept_count, swept_is, swept_view}
use Rattle.svid_shards.proofs.sharded_uses.ShardedUsesUseStore.drop_expired.Goals as goal

pub returns-then-moment-self-clause-kept : goal.returns-then-moment-self-clause-kept
returns-then-moment-self-clause-kept g c = all_left _ _ _ _ _ c.self.invariant c.self.view_is c.if-moment-self.true

pub invariant_of-self : goal.invariant_of-self
invariant_of-self g c = swept_is _ _ _ _ c.args.moment _ _ c.self.invariant c.drop_all_expired-dropped.ensures.kept c.drop_all_expired-dropped.ensures.dropped (omega (arith, c.saturating_add-self-inside.ensures))

pub returns-clause-kept : goal.returns-clause-kept
returns-clause-kept g c = swept_view _ _ _ _ _ _ c.self.invariant c.self.view_is c.drop_all_expired-dropped.ensures.kept

pub returns-clause-dropped : goal.returns-clause-dropped
returns-clause-dropped g c = swept_count _ _ _ _ _ _ _ c.self.invariant c.self.view_is c.drop_all_expired-dropped.ensures.kept c.drop_all_expired-dropped.ensures.dropped
