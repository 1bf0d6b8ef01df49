use Rattle.std.proofs.Common.{◌∙◌, ap, slice_get, sym}
use Rattle.svid_replay.specs.Batches.{last_of}
use Rattle.svid_replay.proofs.WalksLemmas.{gives_first, goes_on, none_at}
use Rattle.svid_shards.proofs.store_walk.StoreWalkIterator.next.Goals as goal

pub returns-clause-steps : goal.returns-clause-steps
returns-clause-steps g c =
    gives_first (g.S.UseStore.content c.self.inside.store.now) _ _ _ _ _ _ c.self.view_is (none_at c.self.inside.room _ c.self.inside.given _ c.as_slice.ensures.value c.get.ensures.lookup.0 (sym c.in_default.ensures)) c.next_uses.ensures (c.last_of-self-inside.ensures ∙ ap (last_of c.self.inside.after) c.as_slice-2.ensures.value) (c.copied-2.ensures ∙ c.first.ensures.value ∙ ap (λ us. slice_get us 0) c.as_slice-3.ensures.value)

pub returns-clause-goes : goal.returns-clause-goes
returns-clause-goes g c = goes_on _ (λ w. tt) _ _ _ (returns-clause-steps g c)
