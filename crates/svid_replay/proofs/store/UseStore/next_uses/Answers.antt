use Rattle.std.proofs.Common.{◌∙◌, ◌++◌, ap, arith, length, sym}
use Rattle.std.proofs.lemmas.Bool.{eqb-true}
use Rattle.std.specs.List.{filter}
use Rattle.svid_replay.specs.Batches.{is_after}
use Rattle.svid_replay.specs.Sets.{rising}
use Rattle.svid_replay.specs.Use.{use_cmp}
use Rattle.svid_replay.proofs.SetsLemmas.{rising_rises}
use Rattle.svid_replay.proofs.UsesLemmas.{none_left, walk_falls}
use Rattle.svid_replay.proofs.WalksLemmas.{room_done, room_full, room_more}
use Rattle.svid_replay.proofs.store.UseStore.next_uses.Goals as goal

pub loop-used-init : goal.loop-used-init
loop-used-init g c = record {
  few = omega (arith, ap length c.clear.ensures);
  parts = ap (λ us. us ++ filter (is_after c.args.after) (rising (g.Self.UseStore.content c.args.self.now))) c.clear.ensures;
}

pub returns-then-is_full : goal.returns-then-is_full
returns-then-is_full g c = room_full 64 _ _ _ c.loop-used.invariant.parts (eqb-true _ 64 (sym c.is_full.ensures ∙ c.if-is_full.true))

pub loop-used-smaller : goal.loop-used-smaller
loop-used-smaller g c = walk_falls _ _ _ (rising_rises use_cmp _) (sym c.in-Some.ensures)

pub loop-used-preserved : goal.loop-used-preserved
loop-used-preserved g c =
    let more = room_more _ _ _ c.loop-used.room c.push.new.self c.in-Some.used (rising_rises use_cmp _) (sym c.in-Some.ensures) c.loop-used.invariant.few c.loop-used.invariant.parts (sym c.is_full.ensures ∙ c.if-is_full.false) c.push.ensures.pushed in
    record { few = more.few; parts = more.parts }

pub returns : goal.returns
returns g c = room_done 64 _ _ _ c.loop-used.invariant.parts (none_left (is_after c.loop-used.last) (rising (g.Self.UseStore.content c.args.self.now)) (sym c.in_default.ensures)) c.loop-used.invariant.few
