use Rattle.std.proofs.Common.{◌≡◌, drop, nat_le}
use Rattle.serde_json.specs.Data.{items_depth, members_depth}
use Rattle.serde_json.specs.View.{items_view, members_view}
use Rattle.svid_documents.proofs.depth.+depth.Given as goal

-- the items so far nest no deeper
abbrev pub invariant-items_fit-loop-item : goal.invariant-items_fit-loop-item
invariant-items_fit-loop-item l =
    nat_le (items_depth (items_view l.items.items)) l.most ≡ nat_le (items_depth (items_view (drop l.item-index l.items.items))) l.most

-- nor do the members
abbrev pub invariant-members_fit-loop-value : goal.invariant-members_fit-loop-value
invariant-members_fit-loop-value l =
    (goal.iterator-members_fit-loop-value).can_next l.value-iterator ×
    (goal.iterator-members_fit-loop-value).is_finite l.value-iterator ×
    (nat_le (members_depth (members_view l.members.entries)) l.most ≡ nat_le (members_depth (members_view l.value-iterator)) l.most)
