use Rattle.std.proofs.Common.{◌≡◌, ◌∙◌, Some, ap, sym}
use Rattle.std.proofs.lemmas.Result.{err_from_is_err_and}
use Rattle.serde_json.specs.View.{members_view}
use Rattle.svid_keys.specs.Bundles.{members_in}
use Rattle.svid_keys.proofs.BundlesLemmas.{bundles_in-members, memory_alone}
use Rattle.svid_keys.proofs.bundles.Bundles.read.Goals as goal

pub returns-in_err-domains-clause-only : goal.returns-in_err-domains-clause-only
returns-in_err-domains-clause-only c = λ is.
    let p = err_from_is_err_and c.from_residual-in_err-domains.result c.from_residual-in_err-domains.ensures.1 in
    let found : members_in c.args.text.now ≡ Some (members_view c.in-Some-as_object.members.now.entries) =
    rw (← c.in_ok-object.ensures, c.in-Some.is) (sym c.in-Some-as_object.ensures) in
    rw (p.1, p.2) (memory_alone c.args.text.now _ (rw found c.in_err-domains.ensures.fault) is)

pub returns-clause-value : goal.returns-clause-value
returns-clause-value c =
    let found : members_in c.args.text.now ≡ Some (members_view c.in-Some-as_object.members.now.entries) =
    rw (← c.in_ok-object.ensures, c.in-Some.is) (sym c.in-Some-as_object.ensures) in
    bundles_in-members c.args.text.now _ found c.in_ok-domains.ensures.accepted ∙ ap Some (sym c.in_ok-domains.ensures.value)
