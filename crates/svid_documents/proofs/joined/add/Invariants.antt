use Rattle.serde_json.specs.View.{members_view}
use Rattle.svid_documents.proofs.JoinLemmas.{IsAdding}
use Rattle.svid_documents.proofs.joined.add.Given as goal

abbrev pub invariant-loop-name : goal.invariant-loop-name
invariant-loop-name l =
    (goal.iterator-loop-name).can_next l.name-iterator ×
    (goal.iterator-loop-name).is_finite l.name-iterator ×
    IsAdding (members_view l.fn.joined.entries) (members_view l.joined.entries) l.fn.members.entries l.name-iterator l.index
