use Rattle.std.proofs.Common.{subst, sym}
use Rattle.svid_replay.specs.Runs.{IsRun}
use Rattle.svid_replay.specs.declared.run.Run.TheInside.{Inside}
use Rattle.svid_replay.proofs.RunsLemmas.{run_keyed}
use Rattle.svid_replay.proofs.run.Run.close.Goals as goal
use Rattle.svid_replay.proofs.run.Run.close.Goals.{then-keyed+then-not-self+in_ok-self-inside, else-keyed}

pub invariant_of-self : goal.invariant_of-self
invariant_of-self c =
    let holds = λ (r : Inside). IsRun r.by_use.items r.start r.keyed r.by_key.items r.expired_by r.key_filter.items in
    elim c.if-keyed.branch as (λ _. holds c.if-keyed.self-inside) [
      | then-keyed+then-not-self+in_ok-self-inside w ↦ subst holds (sym w.self-inside-is) (run_keyed _ _ _ _ _ _ _ _ _ c.self.invariant c.self.view_is w.uses.ensures.value w.in_ok-self-inside.ensures.sorted w.in_ok-self-inside.ensures.told)
      | else-keyed w ↦ subst holds (sym w.self-inside-is) c.self.invariant
    ]
