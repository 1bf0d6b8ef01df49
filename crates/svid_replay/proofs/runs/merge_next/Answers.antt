use Rattle.std.proofs.Common.{◌∙◌, ap, subst, take}
use Rattle.std.proofs.lemmas.List.{take_all}
use Rattle.std.specs.List.{filter}
use Rattle.svid_replay.specs.Batches.{is_after}
use Rattle.svid_replay.specs.Runs.{all_of}
use Rattle.svid_replay.specs.Use.{IsRising}
use Rattle.svid_replay.specs.Uses.{uses_in}
use Rattle.svid_replay.specs.Walks.{next_few}
use Rattle.svid_replay.proofs.WalksLemmas.{few_more, few_none, runs_more}
use Rattle.svid_replay.proofs.runs.merge_next.Goals as goal

pub loop-run-init : goal.loop-run-init
loop-run-init c = c.requires ∙ few_none c.args.after

pub loop-run-preserved : goal.loop-run-preserved
loop-run-preserved c =
    few_more (all_of (take c.loop-run.run-index c.args.runs.now)) c.args.after c.run-item.result c.rest_after.result.now c.loop-run.room c.merge.new.self (subst IsRising c.uses.ensures.value c.uses.ensures.rising)
    (c.rest_after.ensures ∙ ap (filter (is_after c.args.after)) c.uses.ensures.value) c.loop-run.invariant c.merge.ensures
    ∙ ap (λ us. next_few (uses_in us) c.args.after) (runs_more c.args.runs.now c.loop-run.run-index c.run-item.result c.loop-run-test.true c.run-item.is)

pub returns : goal.returns
returns c = c.loop-run.invariant ∙ ap (λ rs. next_few (uses_in (all_of rs)) c.args.after) (take_all c.loop-run.run-index c.args.runs.now c.loop-run-test.false)
