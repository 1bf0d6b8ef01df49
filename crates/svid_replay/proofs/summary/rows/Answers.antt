use Rattle.std.proofs.Common.{arith, subst, [], add-one, take-suc}
use Rattle.std.specs.List.{AllByRecursion}
use Rattle.std.proofs.lemmas.List.{take_all}
use Rattle.svid_replay.specs.Use.{IsBytes}
use Rattle.svid_replay.proofs.BatchesLemmas.{AllByRecursion-push}
use Rattle.svid_replay.proofs.summary.rows.Goals as goal

pub loop-digest-preserved : goal.loop-digest-preserved
loop-digest-preserved c = rw (add-one c.loop-digest.digest-index, take-suc c.args.digests.now c.loop-digest.digest-index [] (omega arith)) (AllByRecursion-push (IsBytes 32) _ _ c.loop-digest.invariant c.row.ensures)

pub returns : goal.returns
returns c = subst (AllByRecursion (IsBytes 32)) (take_all c.loop-digest.digest-index c.args.digests.now (omega arith)) c.loop-digest.invariant
