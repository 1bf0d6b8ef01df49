use Rattle.std.proofs.Common.{arith, rules}
use Rattle.svid_replay.proofs.RunsLemmas.{merged_two}
use Rattle.svid_replay.proofs.runs.merge_two.Goals as goal

pub returns-clause-merged : goal.returns-clause-merged
returns-clause-merged c =
    merged_two c.args.runs.now.items _ _ _ _ _ _ c.len-count.result _ _ _ _ (omega (arith, c.if-count-lt2.false)) (search rules) (omega (arith, c.len-count.ensures)) c.deref_mut.ensures.value c.split_at_mut-front.ensures.front c.index-front-count.is c.split_at_mut-front.ensures.back c.index-back-0.is (search rules) c.truncate.ensures.items
