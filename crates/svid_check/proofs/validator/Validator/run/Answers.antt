use Rattle.std.proofs.Common.{refl, ap, ◌∙◌, arith}
use Rattle.svid_check.specs.Runs.{terms_of}
use Rattle.svid_check.specs.Setting.{with_state}
use Rattle.svid_check.proofs.RunsLemmas.{has_run_all, has_run_more, has_run_none}
use Rattle.svid_check.proofs.validator.Validator.run.Goals as goal

pub loop-event-init : goal.loop-event-init
loop-event-init g c =
    (has_run_none (terms_of g.V.Verifier.says c.args.self.now) c.args.self.now.state _ _ c.reserve.ensures.items, refl, let room = c.in_ok-reserve.ensures.ok in let len = c.reserve.ensures.len in omega arith)

pub loop-event-preserved : goal.loop-event-preserved
loop-event-preserved g c =
    let inv = c.loop-event.invariant in (
      has_run_more (terms_of g.V.Verifier.says c.args.self.now) (terms_of g.V.Verifier.says c.loop-event.self) c.args.self.now.state c.loop-event.self.state c.step-answer.new.self.state
          c.args.events.now c.loop-event.event-index c.event-item.result c.step-answer.result c.args.answers.now.items c.loop-event.answers.items c.put.new.answers.items
          (ap (terms_of g.V.Verifier.says) inv.1) c.loop-event-test.true c.event-item.is inv.0 c.put.ensures.items c.step-answer.ensures.step,
      c.step-answer.ensures.rest ∙ ap (λ h. with_state h c.step-answer.new.self.state) inv.1,
      let room = inv.2 in let len = c.put.ensures.len in let capacity = c.put.ensures.capacity in omega arith,
    )

pub returns-clause-ran : goal.returns-clause-ran
returns-clause-ran g c = (has_run_all (terms_of g.V.Verifier.says c.args.self.now) c.args.self.now.state c.loop-event.self.state c.args.events.now c.loop-event.event-index c.args.answers.now.items c.loop-event.answers.items c.loop-event-test.false c.loop-event.invariant.0).0

pub returns-clause-kept : goal.returns-clause-kept
returns-clause-kept g c = (has_run_all (terms_of g.V.Verifier.says c.args.self.now) c.args.self.now.state c.loop-event.self.state c.args.events.now c.loop-event.event-index c.args.answers.now.items c.loop-event.answers.items c.loop-event-test.false c.loop-event.invariant.0).1
