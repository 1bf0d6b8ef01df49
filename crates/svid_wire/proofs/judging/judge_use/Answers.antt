use Rattle.std.proofs.Common.{◌≡◌, subst, sym, ◌∙◌, ap, Option, None}
use Rattle.svid_replay.specs.declared.token_use.Use.{Use}
use Rattle.svid_replay.specs.Batches.{AllGood, flaw, last_of}
use Rattle.svid_replay.proofs.BatchesLemmas.{AllGood-push}
use Rattle.svid_wire.proofs.judging.judge_use.Goals as goal

pub next-requires-clause-good : goal.next-requires-clause-good
next-requires-clause-good c =
    let us = c.args.uses.items in
    let fine = subst (λ (before : Option Use). flaw c.args.moment before c.in-Some.used ≡ None) (c.last_use.ensures ∙ ap (last_of None) c.deref.ensures.value) (sym c.in_default-flaw_of.ensures.flaw) in
    subst (AllGood c.args.moment None) (sym c.in_ok-push.ensures.items) (AllGood-push c.args.moment None us c.in-Some.used c.requires.begun.good fine)
