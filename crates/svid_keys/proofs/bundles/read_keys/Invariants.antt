use Rattle.std.proofs.Common.{◌≡◌, ◌++◌, drop, filter_map, map}
use Rattle.serde_json.specs.View.{view}
use Rattle.svid_keys.specs.Key.{kept_key}
use Rattle.svid_keys.proofs.bundles.read_keys.Given as goal

-- the keys so far, and then those of the entries that are left
abbrev pub invariant-loop-entry : goal.invariant-loop-entry
invariant-loop-entry l =
    filter_map (kept_key l.domain) (map view l.entries) ≡ l.keys.items ++ filter_map (kept_key l.domain) (map view (drop l.entry-index l.entries))
