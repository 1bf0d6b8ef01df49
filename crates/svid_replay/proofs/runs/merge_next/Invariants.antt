use Rattle.std.proofs.Common.{◌≡◌, take}
use Rattle.svid_replay.specs.Runs.{all_of}
use Rattle.svid_replay.specs.Uses.{uses_in}
use Rattle.svid_replay.specs.Walks.{next_few}
use Rattle.svid_replay.proofs.runs.merge_next.Given as goal

abbrev pub invariant-loop-run : goal.invariant-loop-run
invariant-loop-run l = l.room ≡ next_few (uses_in (all_of (take l.run-index l.runs))) l.after
