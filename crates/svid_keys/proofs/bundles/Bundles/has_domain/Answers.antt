use Rattle.std.proofs.Common.{sym, ◌∙◌}
use Rattle.svid_keys.proofs.CandidatesLemmas.{is_some-bundle_at}
use Rattle.svid_keys.proofs.bundles.Bundles.has_domain.Goals as goal

pub returns : goal.returns
returns c = rw (← c.self.view_is) (c.contains_key.ensures ∙ sym (is_some-bundle_at c.args.domain.now c.self.inside.domains.entries))
