use Rattle.std.proofs.Common.{◌∙◌, ◌++◌, [], ◌∷◌, ap, append_assoc, arith, length, sym}
use Rattle.svid_replay.proofs.WalksLemmas.{room_done, room_full}
use Rattle.svid_check.proofs.saving.uses_after.Goals as goal

pub loop-walk-init : goal.loop-walk-init
loop-walk-init g c = record {
  parts = ap (λ us. us ++ c.walk_after-walk.result) c.in_ok-uses.ensures.items ∙ c.walk_after-walk.ensures;
  few = omega (arith, ap length c.in_ok-uses.ensures.items);
}

pub returns-in_default : goal.returns-in_default
returns-in_default g c = room_done c.args.most _ _ _ c.loop-walk.invariant.parts c.in_default.ensures.steps.0 c.loop-walk.invariant.few

pub loop-walk-preserved : goal.loop-walk-preserved
loop-walk-preserved g c = record {
  parts = ap (λ us. us ++ c.next.new.self) c.in_ok-push.ensures.items ∙ append_assoc c.loop-walk.uses.items (c.in-Some.used ∷ []) c.next.new.self ∙ ap (λ us. c.loop-walk.uses.items ++ us) (sym c.in-Some.ensures.steps) ∙ c.loop-walk.invariant.parts;
  few = omega (arith, ap length c.in_ok-push.ensures.items, c.loop-walk-test.true, c.len-in-loop-walk.ensures);
}

pub returns : goal.returns
returns g c = room_full c.args.most _ _ _ c.loop-walk.invariant.parts (omega (arith, c.loop-walk.invariant.few, c.loop-walk-test.false, c.len-in-loop-walk.ensures))
