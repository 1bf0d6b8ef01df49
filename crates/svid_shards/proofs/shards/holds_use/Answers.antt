use Rattle.std.proofs.Common.{◌≡◌, ◌∙◌, None, true, ap, refl, sym}
use Rattle.std.specs.List.{list_any}
use Rattle.std.specs.Ordering.{eq_by_cmp, is_eq}
use Rattle.svid_replay.specs.Batches.{is_after}
use Rattle.svid_replay.specs.Sets.{rising}
use Rattle.svid_replay.specs.Use.{use_cmp}
use Rattle.svid_replay.proofs.ListLemmas.{all_same, each_true}
use Rattle.svid_replay.proofs.SetsLemmas.{holds-rising, rising_rises}
use Rattle.svid_replay.proofs.UsesLemmas.{none_left, walk_falls}
use Rattle.svid_shards.proofs.ShardsLemmas.{is_here, not_here}
use Rattle.svid_shards.proofs.shards.holds_use.Goals as goal

pub loop-used-init : goal.loop-used-init
loop-used-init g c =
    let us = rising (g.S.UseStore.content c.args.store.now) in
    ap (list_any (eq_by_cmp use_cmp c.args.sought.now)) (all_same (is_after None) us (each_true (λ u. is_after None u ≡ true) (λ u. refl) us))

pub returns-then-is_eq : goal.returns-then-is_eq
returns-then-is_eq g c =
    sym (holds-rising use_cmp (g.S.UseStore.content c.args.store.now) c.args.sought.now ∙ sym c.loop-used.invariant
    ∙ is_here c.args.sought.now c.in-Some.used (rising (g.S.UseStore.content c.args.store.now)) c.loop-used.after (rising_rises use_cmp _) (sym c.in-Some.ensures) (sym (c.is_eq.ensures ∙ ap is_eq c.cmp.ensures) ∙ c.if-is_eq.true))

pub loop-used-smaller : goal.loop-used-smaller
loop-used-smaller g c = walk_falls _ _ _ (rising_rises use_cmp _) (sym c.in-Some.ensures)

pub loop-used-preserved : goal.loop-used-preserved
loop-used-preserved g c =
    not_here c.args.sought.now c.in-Some.used (rising (g.S.UseStore.content c.args.store.now)) c.loop-used.after (rising_rises use_cmp _) (sym c.in-Some.ensures) (sym (c.is_eq.ensures ∙ ap is_eq c.cmp.ensures) ∙ c.if-is_eq.false) ∙ c.loop-used.invariant

pub returns : goal.returns
returns g c =
    sym (holds-rising use_cmp (g.S.UseStore.content c.args.store.now) c.args.sought.now ∙ sym c.loop-used.invariant
    ∙ ap (list_any (eq_by_cmp use_cmp c.args.sought.now)) (none_left _ (rising (g.S.UseStore.content c.args.store.now)) (sym c.in_default.ensures)))
