use Rattle.std.proofs.Common.{◌≡◌, length}
use Rattle.std.specs.List.{filter}
use Rattle.svid_replay.specs.Batches.{is_after}
use Rattle.svid_replay.specs.Sets.{rising}
use Rattle.svid_log.proofs.SavesLemmas.{IsSavedTo}
use Rattle.svid_log.proofs.claims.save_all.Given as goal

abbrev pub invariant-loop-used : goal.invariant-loop-used
invariant-loop-used g l = IsSavedTo (g.S.UseStore.content l.store) l.after l.saved.items

abbrev pub decreases-loop-used : goal.decreases-loop-used
decreases-loop-used g l = length (filter (is_after l.after) (rising (g.S.UseStore.content l.store)))
