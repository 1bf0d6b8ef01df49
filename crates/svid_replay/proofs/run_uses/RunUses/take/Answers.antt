use Rattle.std.proofs.Common.{rules, subst}
use Rattle.svid_replay.specs.Runs.{IsRuns}
use Rattle.svid_replay.proofs.RunsLemmas.{runs_all, runs_merged}
use Rattle.svid_replay.proofs.run_uses.RunUses.take.Goals as goal

pub invariant_of-self-in-Ok : goal.invariant_of-self-in-Ok
invariant_of-self-in-Ok c = subst (IsRuns c.settle.new.runs.items) (search rules) (runs_merged _ c.settle.new.runs.items _ _ (runs_all c.self.inside.runs.items c.put_all.new.runs.items c.self.inside.total _ c.args.new.items (record { is = c.self.invariant; view = c.self.view_is }) c.requires.rising c.requires.new c.in-Ok.ensures.ok) c.settle.ensures).is

pub returns-in-Ok-clause-all : goal.returns-in-Ok-clause-all
returns-in-Ok-clause-all c = λ _. (runs_merged _ c.settle.new.runs.items _ _ (runs_all c.self.inside.runs.items c.put_all.new.runs.items c.self.inside.total _ c.args.new.items (record { is = c.self.invariant; view = c.self.view_is }) c.requires.rising c.requires.new c.in-Ok.ensures.ok) c.settle.ensures).view
