use Rattle.std.proofs.Common.{◌≡◌, ◌∙◌, [], map, option_and_then, option_map, unwrap_or, Some, None, sym, ap}
use Rattle.std.specs.Prelude.{codes}
use Rattle.serde_json.specs.Find.{get_member}
use Rattle.serde_json.specs.View.{members_view, view}
use Rattle.serde_json.proofs.Views.{view-lookup}
use Rattle.svid_keys.specs.Bundles.{as_entries}
use Rattle.svid_documents.proofs.ViewLemmas.{unwrap_or-as_entries}
use Rattle.svid_documents.proofs.uses.entries_in.Goals as goal

pub returns-in-Some : goal.returns-in-Some
returns-in-Some c =
    let found : get_member (codes "keys") (members_view c.args.members.entries) ≡ Some (view c.in-Some.keys) =
    sym (view-lookup (codes "keys") c.args.members.entries) ∙ ap (option_map view) (sym c.in-Some.ensures.value) in
    c.list_of.ensures ∙ (sym (unwrap_or-as_entries (view c.in-Some.keys)) ∙ sym (ap (λ o. unwrap_or (option_and_then as_entries o) []) found))

pub returns : goal.returns
returns c =
    let found : get_member (codes "keys") (members_view c.args.members.entries) ≡ None =
    sym (view-lookup (codes "keys") c.args.members.entries) ∙ ap (option_map view) (sym c.in-None.ensures.value) in
    ap (map view) c.new.ensures.items ∙ sym (ap (λ o. unwrap_or (option_and_then as_entries o) []) found)
