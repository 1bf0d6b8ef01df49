use Rattle.std.proofs.Common.{◌≡◌, ◌∙◌, is_some, true, false, sym, ap}
use Rattle.std.proofs.lemmas.Bool.{cond-false, cond-true}
use Rattle.std.specs.Prelude.{codes}
use Rattle.serde_json.specs.Data.{object, put, string}
use Rattle.serde_json.specs.Find.{get_member}
use Rattle.serde_json.specs.View.{members_view}
use Rattle.serde_json.proofs.Views.{view-Object}
use Rattle.svid_documents.proofs.ViewLemmas.{has_member, view-String}
use Rattle.svid_documents.proofs.uses.key_with_use.Goals as goal

pub returns-then-contains_key : goal.returns-then-contains_key
returns-then-contains_key c =
    let known : is_some (get_member (codes "use") (members_view c.args.members.entries)) ≡ true =
    sym (has_member (codes "use") c.args.members.entries) ∙ sym c.contains_key.ensures ∙ c.if-contains_key.true in
    view-Object c.args.members ∙ sym (cond-true _ _ _ known)

pub returns : goal.returns
returns c =
    let new : is_some (get_member (codes "use") (members_view c.args.members.entries)) ≡ false =
    sym (has_member (codes "use") c.args.members.entries) ∙ sym c.contains_key.ensures ∙ c.if-contains_key.false in
    view-Object _ ∙ (ap object (c.in_ok-put.ensures.ok ∙ ap (λ d. put (codes "use") d (members_view c.args.members.entries)) (view-String c.in_ok-purpose.purpose ∙ ap string c.in_ok-purpose.ensures.ok)) ∙ sym (cond-false _ _ _ new))
