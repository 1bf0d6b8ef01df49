use Rattle.std.proofs.Common.{◌∙◌}
use Rattle.svid_id.specs.Path.{IsPath}
use Rattle.std.proofs.Common.{subst, List, ℕ}
use Rattle.svid_allow.proofs.AllowsLemmas.{below_answer}
use Rattle.svid_allow.proofs.pattern.is_below.Goals as goal

pub returns : goal.returns
returns c =
    let path = subst (λ (s : List ℕ). IsPath s) c.path.ensures.value c.path.ensures.path in
    let above = subst (λ (s : List ℕ). IsPath s) c.path-2.ensures.value c.path-2.ensures.path in
    below_answer c.goes_on.result _ _ _ _ (c.as_bytes.ensures.value ∙ c.path.ensures.value) (c.as_bytes-2.ensures.value ∙ c.path-2.ensures.value)
    path above c.goes_on.ensures
