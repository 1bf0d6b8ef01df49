use Rattle.std.proofs.Common.{refl}
use Rattle.svid_keys.proofs.CandidatesLemmas.{bundle_at-entry}
use Rattle.svid_keys.proofs.bundles.Bundles.keys_at.Goals as goal

pub returns-in-Some : goal.returns-in-Some
returns-in-Some c = rw (← c.self.view_is, bundle_at-entry c.args.domain.now c.self.inside.domains.entries, ← c.in-Some.ensures.value) c.as_slice.ensures.value

pub returns-in-None : goal.returns-in-None
returns-in-None c = rw (← c.self.view_is, bundle_at-entry c.args.domain.now c.self.inside.domains.entries, ← c.in-None.ensures.value) refl
