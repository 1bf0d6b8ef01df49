use Rattle.std.proofs.Common.{◌≡◌, ◌≤◌, None, drop, length}
use Rattle.std.specs.Option.{option_copied}
use Rattle.svid_replay.specs.Runs.{least_from}
use Rattle.svid_replay.proofs.runs.least_near.Given as goal

abbrev pub invariant-loop-run : goal.invariant-loop-run
invariant-loop-run l = record {
  least : least_from l.after (drop l.run-index l.runs) (option_copied l.least) ≡ least_from l.after l.runs None;
  low : l.at ≤ 7;
  long : length l.near.indexes ≡ 8;
}
