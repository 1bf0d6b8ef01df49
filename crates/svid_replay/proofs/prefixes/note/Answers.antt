use Rattle.std.proofs.Common.{arith, ◌<◌, ◌∙◌, ◌++◌, ◌∷◌, [], length, ap, subst, sym}
use Rattle.svid_replay.specs.Prefixes.{IsNoted}
use Rattle.svid_replay.proofs.PrefixesLemmas.{noted_again, noted_new}
use Rattle.svid_replay.proofs.prefixes.note.Goals as goal
use Rattle.svid_replay.proofs.prefixes.note.Goals.{then-may_have+in_ok-push, else-may_have}

pub returns-clause-noted : goal.returns-clause-noted
returns-clause-noted c before noted =
    let long : 0 < length c.add.new.key_filter = omega (arith, c.add.ensures.long, noted.some) in
    elim c.if-may_have.branch [
      | then-may_have+in_ok-push w ↦ noted_again before _ _ _ _ _ c.if-used.false (ap (λ v. v.items) w.prefixes-is ∙ w.in_ok-push.ensures.items ∙ ap (λ n. c.args.prefixes.now.items ++ n ∷ []) w.prefix_of.ensures) noted long c.add.ensures.others c.add.ensures.added
      | else-may_have w ↦ subst (λ v. IsNoted (before ++ c.args.used.now ∷ []) c.add.new.key_filter v.items) (sym w.prefixes-is) (noted_new before _ _ _ _ c.if-used.false (c.may_have.ensures w.if-may_have.false) noted long c.add.ensures.others c.add.ensures.added)
    ]
