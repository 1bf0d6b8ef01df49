use Rattle.std.proofs.Common.{◌≡◌, take}
use Rattle.svid_replay.specs.Runs.{all_of, new_among}
use Rattle.svid_replay.proofs.runs.new_uses.Given as goal

abbrev pub invariant-loop-used : goal.invariant-loop-used
invariant-loop-used l = l.new.items ≡ new_among (all_of l.runs) (take l.used-index l.uses)
