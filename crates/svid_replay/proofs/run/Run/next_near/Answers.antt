use Rattle.svid_replay.proofs.RunsLemmas.{run_next}
use Rattle.svid_replay.proofs.run.Run.next_near.Goals as goal

pub returns : goal.returns
returns c = run_next _ _ c.args.after.now _ c.uses.ensures.rising c.uses.ensures.value c.first_near.ensures
