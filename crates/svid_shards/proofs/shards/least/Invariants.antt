use Rattle.std.proofs.Common.{◌≡◌, ◌<◌, List, None, Option, get_or, map, take}
use Rattle.svid_replay.specs.Walks.{exp_if_any}
use Rattle.svid_replay.specs.declared.token_use.Use.{Use}
use Rattle.svid_shards.specs.Shards.{AreHeads, least_in}
use Rattle.svid_shards.proofs.shards.least.Given as goal

abbrev pub invariant-loop-i : goal.invariant-loop-i
invariant-loop-i l = record {
  within : l.at < l.i;
  least : (next : List (Option Use)) → AreHeads next → l.heads ≡ map exp_if_any next → get_or next l.at None ≡ least_in None (take l.i next);
}
