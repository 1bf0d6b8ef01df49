use Rattle.std.proofs.Common.{length}
use Rattle.svid_replay.proofs.TwiceLemmas.{HasListed}
use Rattle.svid_replay.proofs.twice.list_groups.Given as goal

abbrev pub invariant-loop-first : goal.invariant-loop-first
invariant-loop-first l = HasListed l.sorted l.rest l.listed.items

abbrev pub decreases-loop-first : goal.decreases-loop-first
decreases-loop-first l = length l.rest
