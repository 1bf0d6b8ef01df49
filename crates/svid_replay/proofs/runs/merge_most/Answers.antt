use Rattle.svid_replay.proofs.RunsLemmas.{merged_more, merged_none}
use Rattle.svid_replay.proofs.runs.merge_most.Goals as goal

pub loop-alloc-init : goal.loop-alloc-init
loop-alloc-init c = merged_none c.args.runs.now.items

pub returns-then-not-merge_two : goal.returns-then-not-merge_two
returns-then-not-merge_two c = merged_more _ _ _ c.loop-alloc.invariant c.merge_two.ensures.merged

pub loop-alloc-preserved : goal.loop-alloc-preserved
loop-alloc-preserved c = merged_more _ _ _ c.loop-alloc.invariant c.merge_two.ensures.merged
