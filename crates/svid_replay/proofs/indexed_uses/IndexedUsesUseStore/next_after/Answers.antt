use Rattle.std.proofs.Common.{true, ◌&&◌, Some, None, sym, ap, ◌∙◌, refl, find}
use Rattle.std.specs.Ordering.{is_lt}
use Rattle.svid_replay.specs.Batches.{is_after}
use Rattle.svid_replay.specs.Use.{use_cmp}
use Rattle.svid_replay.specs.Uses.{next_above}
use Rattle.svid_replay.proofs.IndexedLemmas.{first_found, and_true, all_pass}
use Rattle.svid_replay.proofs.UsesLemmas.{stored}
use Rattle.svid_replay.proofs.indexed_uses.IndexedUsesUseStore.next_after.Goals as goal

pub returns-in-Some : goal.returns-in-Some
returns-in-Some c =
    let u = c.in-Some.last in
    let us = c.self.inside.by_use.keys in
    c.copied-in-Some.ensures ∙ first_found (is_after (Some u)) (λ q. is_lt (use_cmp u q) && true) us _ _ _ (λ q. and_true _) (c.range.ensures.between tt) c.next-in-Some.ensures.steps
    ∙ ap (find (is_after (Some u))) (sym (stored us _ c.self.invariant.rising c.self.view_is)) ∙ ap (next_above c.args.self.now) (sym c.in-Some.is)

pub returns-in-None : goal.returns-in-None
returns-in-None c =
    let us = c.self.inside.by_use.keys in
    c.copied.ensures ∙ first_found (is_after None) (λ q. true) us _ _ _ (λ q. refl) (c.iter.ensures.rest ∙ all_pass us) c.next.ensures.steps
    ∙ ap (find (is_after None)) (sym (stored us _ c.self.invariant.rising c.self.view_is)) ∙ ap (next_above c.args.self.now) (sym c.in-None.is)
