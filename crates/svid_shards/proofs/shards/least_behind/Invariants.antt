use Rattle.std.proofs.Common.{◌≡◌, ◌<◌, ℕ, List, None, Option, Some, false, get_or, map}
use Rattle.svid_replay.specs.Walks.{exp_if_any}
use Rattle.svid_replay.specs.declared.token_use.Use.{Use}
use Rattle.svid_shards.specs.Shards.{AreBehind, AreHeads, is_second}
use Rattle.svid_shards.proofs.shards.least_behind.Given as goal

-- no earlier head expires at that second
abbrev pub invariant-loop-i : goal.invariant-loop-i
invariant-loop-i l = (next : List (Option Use)) → AreHeads next → AreBehind (Some l.used) next → l.heads ≡ map exp_if_any next → (j : ℕ) → j < l.i → is_second l.used.exp (exp_if_any (get_or next j None)) ≡ false
