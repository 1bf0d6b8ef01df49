use Rattle.serde_json.specs.View.{members_view}
use Rattle.svid_keys.proofs.BundlesLemmas.{IsReading}
use Rattle.svid_keys.proofs.bundles.read_members.Given as goal

abbrev pub invariant-loop-name : goal.invariant-loop-name
invariant-loop-name l =
    (goal.iterator-loop-name).can_next l.name-iterator ×
    (goal.iterator-loop-name).is_finite l.name-iterator ×
    IsReading (members_view l.members.entries) l.domains.entries l.name-iterator
