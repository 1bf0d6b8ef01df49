use Rattle.std.proofs.Common.{◌≡◌, rules, sym, ◌∙◌, subst, [], ◌∷◌}
use Rattle.svid_replay.specs.Records.{State, join, state_of}
use Rattle.svid_replay.proofs.RecordsLemmas.{taken, passed, taken_is_record}
use Rattle.svid_replay.proofs.record.Record.take_in.Goals as goal

pub invariant_of-self : goal.invariant_of-self
invariant_of-self g c = taken_is_record _ c.args.used _ c.self.invariant c.is_live.ensures.fields (search rules) (sym c.is_live.ensures.live ∙ c.if-is_live.true) c.in_ok-insert.ensures.ok

pub returns-in_ok-insert-clause-ok : goal.returns-in_ok-insert-clause-ok
returns-in_ok-insert-clause-ok g c =
    subst (λ (r : State). ◌≡◌ {A = State} (record { moment = c.self.inside.moment; uses = g.S.UseStore.content c.insert.new.self }) (join r (state_of r.moment (c.args.used ∷ [])))) c.self.view_is (taken _ c.args.used _ c.self.invariant (sym c.is_live.ensures.live ∙ c.if-is_live.true) c.in_ok-insert.ensures.ok)

pub returns-else-is_live-clause-ok : goal.returns-else-is_live-clause-ok
returns-else-is_live-clause-ok g c =
    subst (λ (r : State). r ≡ join r (state_of r.moment (c.args.used ∷ []))) c.self.view_is (passed _ c.args.used c.self.invariant (sym c.is_live.ensures.live ∙ c.if-is_live.false))
