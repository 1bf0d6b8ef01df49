use Rattle.svid_id.proofs.IdLemmas.{IsCharBoundary-domain_end}
use Rattle.svid_id.proofs.spiffe_id.SpiffeId.domain.Goals as goal

pub range-requires-clause-end_boundary : goal.range-requires-clause-end_boundary
range-requires-clause-end_boundary c =
    rw c.deref.ensures (IsCharBoundary-domain_end _ _ _ c.self.invariant.0 c.self.invariant.1)
