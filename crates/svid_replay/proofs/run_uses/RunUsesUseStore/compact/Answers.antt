use Rattle.svid_replay.proofs.RunsLemmas.{runs_merged}
use Rattle.svid_replay.proofs.run_uses.RunUsesUseStore.compact.Goals as goal

pub invariant_of-self : goal.invariant_of-self
invariant_of-self c = (runs_merged c.self.inside.runs.items c.compact.new.runs.items c.self.inside.total _ (record { is = c.self.invariant; view = c.self.view_is }) c.compact.ensures).is

pub returns : goal.returns
returns c = (runs_merged c.self.inside.runs.items c.compact.new.runs.items c.self.inside.total _ (record { is = c.self.invariant; view = c.self.view_is }) c.compact.ensures).view
