use Rattle.svid_id.proofs.IdLemmas.{IsCharBoundary-domain_end, drop-domain_end}
use Rattle.svid_id.proofs.spiffe_id.SpiffeId.path.Goals as goal

pub range_from-requires : goal.range_from-requires
range_from-requires c =
    λ _. rw c.deref.ensures (IsCharBoundary-domain_end _ _ _ c.self.invariant.0 c.self.invariant.1)

pub returns-clause-value : goal.returns-clause-value
returns-clause-value c =
    rw (c.range_from.ensures.value, ← c.self.view_is, c.deref.ensures) (drop-domain_end _ _ c.self.invariant.1)

pub returns-clause-path : goal.returns-clause-path
returns-clause-path c =
    rw (c.range_from.ensures.value, c.deref.ensures, drop-domain_end _ _ c.self.invariant.1) c.self.invariant.0.path
