use Rattle.std.proofs.Common.{◌≡◌, ◌∙◌, arith, [], subst}
use Rattle.svid_replay.specs.Records.{State, join, state_of}
use Rattle.svid_replay.proofs.RecordsLemmas.{raised, raised_is_record}
use Rattle.svid_replay.proofs.record.Record.raise.Goals as goal

pub invariant_of-self : goal.invariant_of-self
invariant_of-self g c = raised_is_record _ c.args.now _ _ c.self.invariant (omega arith) c.max-self-inside.ensures (c.tidy.ensures ∙ c.drop_expired-raised.ensures.kept)

pub returns-clause-joined : goal.returns-clause-joined
returns-clause-joined g c =
    subst (λ (r : State). ◌≡◌ {A = State} (record { moment = c.max-self-inside.result; uses = g.S.UseStore.content c.tidy.new.self }) (join r (state_of c.args.now []))) c.self.view_is (raised _ c.args.now _ _ c.max-self-inside.ensures (c.tidy.ensures ∙ c.drop_expired-raised.ensures.kept))
