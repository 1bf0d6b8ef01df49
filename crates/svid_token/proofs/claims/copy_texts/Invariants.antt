use Rattle.std.proofs.Common.{◌≡◌, ◌++◌, drop, map, option_map, string_bytes}
use Rattle.serde_json.specs.View.{items_view}
use Rattle.svid_token.specs.Claims.{texts}
use Rattle.svid_token.proofs.claims.copy_texts.Given as goal

-- the texts so far, and then those of the items that are left
abbrev pub invariant-loop-item : goal.invariant-loop-item
invariant-loop-item l =
    texts (items_view l.items) ≡ option_map (λ rest. map string_bytes l.texts.items ++ rest) (texts (items_view (drop l.item-index l.items)))
