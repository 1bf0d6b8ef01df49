use Rattle.std.proofs.Common.{◌∙◌, ap, not, sym}
use Rattle.std.proofs.lemmas.List.{take_all}
use Rattle.svid_replay.specs.Runs.{all_of, new_among}
use Rattle.svid_replay.proofs.RunsLemmas.{new_more, new_same}
use Rattle.svid_replay.proofs.runs.new_uses.Goals as goal
use Rattle.svid_replay.proofs.runs.new_uses.Goals.{then-not-any_holds+in_ok-push, else-not-any_holds}

pub loop-used-preserved : goal.loop-used-preserved
loop-used-preserved c = elim c.if-not-any_holds.branch [
  | then-not-any_holds+in_ok-push w ↦ ap (λ v. v.items) w.new-is ∙ w.in_ok-push.ensures.items ∙ new_more (all_of c.args.runs.now) c.args.uses.now _ _ _ c.loop-used-test.true c.loop-used.invariant (ap not (sym c.any_holds.ensures ∙ w.if-not-any_holds.true))
  | else-not-any_holds w ↦ ap (λ v. v.items) w.new-is ∙ new_same (all_of c.args.runs.now) c.args.uses.now _ _ _ c.loop-used-test.true c.loop-used.invariant (ap not (sym c.any_holds.ensures ∙ w.if-not-any_holds.false))
]

pub returns : goal.returns
returns c =
    let held = all_of c.args.runs.now in
    c.loop-used.invariant ∙ ap (new_among held) (take_all c.loop-used.used-index c.args.uses.now c.loop-used-test.false)
