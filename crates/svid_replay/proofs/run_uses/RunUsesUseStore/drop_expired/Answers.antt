use Rattle.std.proofs.Common.{arith}
use Rattle.svid_replay.proofs.RunsLemmas.{runs_dropped}
use Rattle.svid_replay.proofs.run_uses.RunUsesUseStore.drop_expired.Goals as goal

pub drop_expired-dropped-requires : goal.drop_expired-dropped-requires
drop_expired-dropped-requires c = omega (arith, c.self.invariant.long)

pub overflow_sub-self : goal.overflow_sub-self
overflow_sub-self c = (runs_dropped _ _ _ _ c.args.moment _ c.self.invariant c.self.view_is c.drop_expired-dropped.ensures.kept c.drop_expired-dropped.ensures.dropped c.drop_expired-dropped.ensures.long).bound

pub invariant_of-self : goal.invariant_of-self
invariant_of-self c = (runs_dropped _ _ _ _ c.args.moment _ c.self.invariant c.self.view_is c.drop_expired-dropped.ensures.kept c.drop_expired-dropped.ensures.dropped c.drop_expired-dropped.ensures.long).is

pub returns-clause-kept : goal.returns-clause-kept
returns-clause-kept c = (runs_dropped _ _ _ _ c.args.moment _ c.self.invariant c.self.view_is c.drop_expired-dropped.ensures.kept c.drop_expired-dropped.ensures.dropped c.drop_expired-dropped.ensures.long).kept

pub returns-clause-dropped : goal.returns-clause-dropped
returns-clause-dropped c = (runs_dropped _ _ _ _ c.args.moment _ c.self.invariant c.self.view_is c.drop_expired-dropped.ensures.kept c.drop_expired-dropped.ensures.dropped c.drop_expired-dropped.ensures.long).counted
