use Rattle.std.proofs.Common.{◌≡◌, drop}
use Rattle.std.specs.List.{list_any}
use Rattle.svid_replay.specs.Indexed.{is_sought}
use Rattle.svid_replay.specs.Runs.{all_of}
use Rattle.svid_replay.proofs.runs.any_has.Given as goal

abbrev pub invariant-loop-run : goal.invariant-loop-run
invariant-loop-run l = list_any (is_sought l.withdrawn l.key) (all_of (drop l.run-index l.runs)) ≡ list_any (is_sought l.withdrawn l.key) (all_of l.runs)
