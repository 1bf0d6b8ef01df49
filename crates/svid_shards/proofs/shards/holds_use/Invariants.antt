use Rattle.std.proofs.Common.{◌≡◌, length}
use Rattle.std.specs.List.{filter, list_any}
use Rattle.std.specs.Ordering.{eq_by_cmp}
use Rattle.svid_replay.specs.Batches.{is_after}
use Rattle.svid_replay.specs.Sets.{rising}
use Rattle.svid_replay.specs.Use.{use_cmp}
use Rattle.svid_shards.proofs.shards.holds_use.Given as goal

-- the use is among those that are left, if it is in the set
abbrev pub invariant-loop-used : goal.invariant-loop-used
invariant-loop-used g l =
    let us = rising (g.S.UseStore.content l.store) in
    list_any (eq_by_cmp use_cmp l.sought) (filter (is_after l.after) us) ≡ list_any (eq_by_cmp use_cmp l.sought) us

abbrev pub decreases-loop-used : goal.decreases-loop-used
decreases-loop-used g l = length (filter (is_after l.after) (rising (g.S.UseStore.content l.store)))
