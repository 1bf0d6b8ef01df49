use Rattle.std.proofs.Common.{◌∙◌}
use Rattle.svid_replay.proofs.RunsLemmas.{known_more}
use Rattle.svid_replay.proofs.filter.add_all.Goals as goal

pub loop-used-preserved : goal.loop-used-preserved
loop-used-preserved c = record {
  long = c.add.ensures.long ∙ c.loop-used.invariant.long;
  known = known_more _ _ _ _ _ c.loop-used.invariant.known c.add.ensures.others c.add.ensures.added c.loop-used-test.true;
}
