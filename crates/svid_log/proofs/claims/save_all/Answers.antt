use Rattle.std.proofs.Common.{◌++◌, ◌∷◌, [], ap, sym, ◌∙◌}
use Rattle.svid_replay.specs.Batches.{is_after}
use Rattle.svid_replay.proofs.SetsLemmas.{rising_rises}
use Rattle.svid_replay.proofs.UsesLemmas.{found_held, walk_falls}
use Rattle.svid_log.proofs.SavesLemmas.{saved_all, saved_more, saved_none}
use Rattle.svid_log.proofs.claims.save_all.Goals as goal

pub loop-used-init : goal.loop-used-init
loop-used-init g c = rw c.new-saved.ensures.items (saved_none _)

pub alone-requires : goal.alone-requires
alone-requires g c = c.requires c.in-Some.used (found_held _ (is_after c.loop-used.after) _ (sym c.in-Some.ensures))

pub loop-used-smaller : goal.loop-used-smaller
loop-used-smaller g c = walk_falls _ _ _ (rising_rises _ _) (sym c.in-Some.ensures)

pub loop-used-preserved : goal.loop-used-preserved
loop-used-preserved g c =
    saved_more _ _ _ _ _ (sym c.in-Some.ensures) c.loop-used.invariant (c.in_ok-push.ensures.items ∙ ap (λ b. c.loop-used.saved.items ++ b ∷ []) c.in_ok-alone.ensures)

pub returns : goal.returns
returns g c = saved_all _ _ _ (sym c.in_default.ensures) c.loop-used.invariant
