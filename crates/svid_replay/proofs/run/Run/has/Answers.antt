use Rattle.std.proofs.Common.{◌∙◌, ap, rules, subst, sym}
use Rattle.std.specs.List.{list_any}
use Rattle.svid_replay.specs.Indexed.{is_sought}
use Rattle.svid_replay.specs.Keys.{TellUses, left_of}
use Rattle.svid_replay.specs.Runs.{HasBits}
use Rattle.svid_replay.proofs.RunsLemmas.{run_lacks, run_tells}
use Rattle.svid_replay.proofs.run.Run.has.Goals as goal

pub returns-then-not-may_have : goal.returns-then-not-may_have
returns-then-not-may_have c = run_lacks _ _ _ _ _ _ _ _ _ c.self.invariant c.self.view_is (λ h. c.may_have.ensures (search rules) (subst (λ ws. HasBits ws c.args.key.now) (sym c.deref.ensures.value) h))

pub returns-then-self : goal.returns-then-self
returns-then-self c = c.tell_key.ensures c.args.self.now (subst (λ ks. TellUses (left_of c.self.inside.expired_by ks) c.args.self.now) (sym c.deref-then-self.ensures.value) (run_tells _ _ _ _ _ _ _ c.self.invariant c.self.view_is c.if-self.true))

pub returns-else-self : goal.returns-else-self
returns-else-self c = c.has_sought.ensures ∙ ap (list_any (is_sought c.args.withdrawn c.args.key.now)) c.uses.ensures.value
