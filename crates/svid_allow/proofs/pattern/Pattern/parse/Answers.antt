use Rattle.std.proofs.Common.{◌∙◌, refl, sym, ap, subst, List, ℕ}
use Rattle.std.proofs.lemmas.Result.{err_from_is_err_and}
use Rattle.svid_id.specs.Id.{IsId}
use Rattle.svid_allow.specs.Pattern.{reach_of, has_mark}
use Rattle.svid_allow.proofs.PatternLemmas.{IsPattern-from_id, IsUtf8-IsPattern, parts-IsPattern}
use Rattle.svid_allow.proofs.pattern.Pattern.parse.Goals as goal

pub returns-in_err-id-clause-only : goal.returns-in_err-id-clause-only
returns-in_err-id-clause-only c = λ pattern is.
    let cut = c.id_in.ensures ∙ (parts-IsPattern c.args.text.now pattern.id pattern.reach is).0 in
    let fault = c.in_err-id.ensures.only pattern.id (subst (λ (s : List ℕ). IsId s pattern.id) (sym cut) is.id) in
    let p = err_from_is_err_and c.from_residual.result c.from_residual.ensures.1 in
    rw (p.1, p.2) fault

pub to_text-requires : goal.to_text-requires
to_text-requires c =
    let id = subst (λ (s : List ℕ). IsId s c.in_ok-id.id) c.id_in.ensures c.in_ok-id.ensures.ok in
    IsUtf8-IsPattern _ _ (IsPattern-from_id c.args.text.now c.in_ok-id.id _ id refl)

pub invariant_of-result : goal.invariant_of-result
invariant_of-result c =
    let id = subst (λ (s : List ℕ). IsId s c.in_ok-id.id) c.id_in.ensures c.in_ok-id.ensures.ok in
    let path = c.as_bytes.ensures.value ∙ c.path.ensures.value in
    let reach = c.reach_of-reach.ensures ∙ ap (reach_of (has_mark c.args.text.now)) path in
    rw c.in_ok-text.ensures (IsPattern-from_id c.args.text.now c.in_ok-id.id _ id reach)

pub returns-clause-ok : goal.returns-clause-ok
returns-clause-ok c =
    let id = subst (λ (s : List ℕ). IsId s c.in_ok-id.id) c.id_in.ensures c.in_ok-id.ensures.ok in
    let path = c.as_bytes.ensures.value ∙ c.path.ensures.value in
    let reach = c.reach_of-reach.ensures ∙ ap (reach_of (has_mark c.args.text.now)) path in
    IsPattern-from_id c.args.text.now c.in_ok-id.id _ id reach
