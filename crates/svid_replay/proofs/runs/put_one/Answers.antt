use Rattle.std.proofs.Common.{◌∙◌, ◌∷◌, ◌≤◌, ◌<◌, [], arith, length, refl, rules, subst, sym}
use Rattle.svid_replay.specs.Use.{IsRising}
use Rattle.svid_replay.proofs.RunsLemmas.{put_behind, put_in_place, rising_one}
use Rattle.svid_replay.proofs.runs.put_one.Goals as goal

pub returns-then-goes_on-clause-ok : goal.returns-then-goes_on-clause-ok
returns-then-goes_on-clause-ok c =
    let some : 0 < length c.args.runs.now.items = search rules in
    put_in_place (c.args.new ∷ []) c.args.runs.now.items _ _ _ _ (omega (arith, some, c.len-last.ensures)) c.index_mut-run.ensures.value c.in_ok-insert.ensures.ok (omega (arith, c.in_ok-insert.ensures.less)) refl

pub of-requires : goal.of-requires
of-requires c = subst IsRising (sym c.in_ok-from_slice.ensures.items) (rising_one c.args.new)

pub returns-clause-ok : goal.returns-clause-ok
returns-clause-ok c = put_behind (c.args.new ∷ []) c.args.runs.now.items _ _ (c.in_ok-run.ensures ∙ c.in_ok-from_slice.ensures.items) (subst (λ rs. length rs ≤ 64 → length rs < 64) c.deref.ensures.value (c.goes_on.ensures.room c.if-goes_on.false)) c.in_ok-push.ensures.items
