use Rattle.std.proofs.Common.{rules, ◌≡◌, ◌∙◌, not, is_none, is_some, true, false, sym}
use Rattle.std.proofs.lemmas.Bool.{cond-false, cond-true}
use Rattle.serde_json.specs.Find.{get_member}
use Rattle.serde_json.specs.View.{members_view, view}
use Rattle.svid_id.specs.Domain.{is_domain}
use Rattle.svid_keys.specs.Bundles.{entries_in}
use Rattle.svid_documents.proofs.ViewLemmas.{has_member}
use Rattle.svid_documents.proofs.joined.check.Goals as goal

pub returns-then-contains_key-clause-fault : goal.returns-then-contains_key-clause-fault
returns-then-contains_key-clause-fault c =
    let named : not (is_domain c.args.name.now) ≡ false = search rules in
    let kept : is_none (entries_in (view c.args.set.now)) ≡ false = search rules in
    let known : is_some (get_member c.args.name.now (members_view c.args.joined.now.entries)) ≡ true =
    sym (has_member c.args.name.now c.args.joined.now.entries) ∙ sym c.contains_key.ensures ∙ c.if-contains_key.true in
    λ ms. cond-false _ _ _ named ∙ (cond-false _ _ _ kept ∙ cond-true _ _ _ known)

pub returns-clause-next : goal.returns-clause-next
returns-clause-next c =
    let named : not (is_domain c.args.name.now) ≡ false = search rules in
    let kept : is_none (entries_in (view c.args.set.now)) ≡ false = search rules in
    let new : is_some (get_member c.args.name.now (members_view c.args.joined.now.entries)) ≡ false =
    sym (has_member c.args.name.now c.args.joined.now.entries) ∙ sym c.contains_key.ensures ∙ c.if-contains_key.false in
    λ ms. cond-false _ _ _ named ∙ (cond-false _ _ _ kept ∙ cond-false _ _ _ new)
