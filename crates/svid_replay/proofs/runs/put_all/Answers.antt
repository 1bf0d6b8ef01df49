use Rattle.std.proofs.Common.{◌≤◌, ◌<◌, arith, length, refl, rules, subst}
use Rattle.svid_replay.proofs.RunsLemmas.{merged_has, merged_less, put_behind, put_in_place}
use Rattle.svid_replay.proofs.runs.put_all.Goals as goal

pub returns-then-goes_on-clause-ok : goal.returns-then-goes_on-clause-ok
returns-then-goes_on-clause-ok c =
    let some : 0 < length c.args.runs.now.items = search rules in
    put_in_place c.args.new.items c.args.runs.now.items _ _ _ _ (omega (arith, some, c.len-last.ensures)) c.index_mut-front.ensures.value (merged_has _ _ _ _ c.in_ok-absorb.ensures.ok c.in_ok-run.ensures) (merged_less _ _ _ _ c.in_ok-absorb.ensures.ok c.in_ok-run.ensures) refl

pub returns-clause-ok : goal.returns-clause-ok
returns-clause-ok c = put_behind c.args.new.items c.args.runs.now.items _ _ c.in_ok-run.ensures (subst (λ rs. length rs ≤ 64 → length rs < 64) c.deref.ensures.value (c.goes_on.ensures.room c.if-goes_on.false)) c.in_ok-push.ensures.items
