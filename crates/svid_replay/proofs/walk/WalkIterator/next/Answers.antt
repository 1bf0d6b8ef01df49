use Rattle.std.proofs.Common.{◌∙◌, ap, slice_get, sym}
use Rattle.svid_replay.proofs.WalksLemmas.{gives_first, goes_on, none_at}
use Rattle.svid_replay.proofs.walk.WalkIterator.next.Goals as goal

pub returns-clause-steps : goal.returns-clause-steps
returns-clause-steps g c =
    gives_first c.self.inside.whole.now.uses _ _ _ _ _ _ c.self.view_is (none_at c.self.inside.room _ c.self.inside.given _ c.as_slice.ensures.value c.get.ensures.lookup.0 (sym c.in_default.ensures)) c.next_ahead.ensures.next c.next_ahead.ensures.after (c.copied-2.ensures ∙ c.first.ensures.value ∙ ap (λ us. slice_get us 0) c.as_slice-2.ensures.value)

pub returns-clause-goes : goal.returns-clause-goes
returns-clause-goes g c = goes_on _ (λ w. tt) _ _ _ (returns-clause-steps g c)
