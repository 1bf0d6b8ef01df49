use Rattle.std.proofs.Common.{ap, refl, subst, sym, ◌∷◌, []}
use Rattle.svid_check.specs.declared.answer.Answer.TheVariants.{Checked, Ticked, Taken, Withdrawn}
use Rattle.svid_check.specs.declared.event.Event.{Event}
use Rattle.svid_check.specs.declared.event.Event.TheVariants.{Check, Tick, Take, Withdraw}
use Rattle.svid_check.specs.Runs.{RunsFrom, terms_of}
use Rattle.svid_check.proofs.RunsLemmas.{checks, takes, ticks, withdraws}
use Rattle.svid_check.proofs.validator.Validator.step.Goals as goal

pub returns-in-Check-clause-step : goal.returns-in-Check-clause-step
returns-in-Check-clause-step g c =
    let t = terms_of g.V.Verifier.says c.args.self.now in
    subst (λ (e : Event). RunsFrom t c.args.self.now.state (e ∷ []) (Checked c.check.result ∷ []) c.check.new.self.state) (sym c.in-Check.is)
    (checks t c.args.self.now.state c.check.new.self.state c.in-Check.now (Check c.in-Check.now c.in-Check.token) c.check.result c.in-Check.token.now c.check.ensures.answer c.check.ensures.early (ap (λ h. h.state) c.check.ensures.state) (λ x answered. (answered, refl)))

pub returns-in-Tick-clause-step : goal.returns-in-Tick-clause-step
returns-in-Tick-clause-step g c =
    let t = terms_of g.V.Verifier.says c.args.self.now in
    subst (λ (e : Event). RunsFrom t c.args.self.now.state (e ∷ []) (Ticked ∷ []) c.tick.new.self.state) (sym c.in-Tick.is)
    (ticks t c.args.self.now.state c.tick.new.self.state c.in-Tick.now (Tick c.in-Tick.now) (ap (λ h. h.state) c.tick.ensures) (λ x. refl))

pub returns-in-Take-clause-step : goal.returns-in-Take-clause-step
returns-in-Take-clause-step g c =
    let t = terms_of g.V.Verifier.says c.args.self.now in
    subst (λ (e : Event). RunsFrom t c.args.self.now.state (e ∷ []) (Taken c.take.result ∷ []) c.take.new.self.state) (sym c.in-Take.is)
    (takes t c.args.self.now.state c.take.new.self.state c.in-Take.now (Take c.in-Take.now c.in-Take.batch) c.in-Take.batch.now c.take.result c.take.ensures.taken (λ x y told. told))

pub returns-in-Withdraw-clause-step : goal.returns-in-Withdraw-clause-step
returns-in-Withdraw-clause-step g c =
    let t = terms_of g.V.Verifier.says c.args.self.now in
    subst (λ (e : Event). RunsFrom t c.args.self.now.state (e ∷ []) (Withdrawn c.withdraw.result ∷ []) c.withdraw.new.self.state) (sym c.in-Withdraw.is)
    (withdraws t c.args.self.now.state c.withdraw.new.self.state c.in-Withdraw.now (Withdraw c.in-Withdraw.now c.in-Withdraw.key c.in-Withdraw.exp) c.in-Withdraw.key c.in-Withdraw.exp c.withdraw.result c.withdraw.ensures.answer (ap (λ h. h.state) c.withdraw.ensures.state) (λ x due. (due, refl)))
