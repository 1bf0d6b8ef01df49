use Rattle.std.proofs.Common.{◌≡◌, map}
use Rattle.serde_json.specs.View.{view}
use Rattle.svid_documents.specs.Uses.{with_use}
use Rattle.svid_documents.proofs.uses.with_uses.Given as goal

-- the entries so far have their uses
abbrev pub invariant-loop-entry : goal.invariant-loop-entry
invariant-loop-entry l =
    (goal.iterator-loop-entry).can_next l.entry-iterator ×
    (goal.iterator-loop-entry).is_finite l.entry-iterator ×
    (map view l.mended.items ≡ map with_use (map view l.yielded))
