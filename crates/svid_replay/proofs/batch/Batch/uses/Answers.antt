use Rattle.std.proofs.Common.{sym, subst}
use Rattle.svid_replay.specs.Use.{IsRising}
use Rattle.svid_replay.proofs.RecordsLemmas.{good_rises}
use Rattle.svid_replay.proofs.batch.Batch.uses.Goals as goal

pub returns-clause-rising : goal.returns-clause-rising
returns-clause-rising c = subst IsRising (sym c.deref.ensures.value) (good_rises _ _ c.self.invariant.good)
