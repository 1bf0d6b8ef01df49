use Rattle.std.proofs.Common.{◌≡◌, length, take}
use Rattle.std.specs.List.{AllByRecursion}
use Rattle.svid_replay.specs.Runs.{HasBits}
use Rattle.svid_replay.proofs.filter.add_all.Given as goal

abbrev pub invariant-loop-used : goal.invariant-loop-used
invariant-loop-used l = record {
  long : length l.key_filter ≡ length l.fn.key_filter;
  known : AllByRecursion (λ u. HasBits l.key_filter u.key) (take l.used-index l.uses);
}
