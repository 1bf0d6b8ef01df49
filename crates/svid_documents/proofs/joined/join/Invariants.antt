use Rattle.serde_json.specs.View.{members_view}
use Rattle.svid_documents.proofs.JoinLemmas.{IsJoining}
use Rattle.svid_documents.proofs.joined.join.Given as goal

abbrev pub invariant-loop-index : goal.invariant-loop-index
invariant-loop-index l = IsJoining l.documents (members_view l.joined.entries) l.index
