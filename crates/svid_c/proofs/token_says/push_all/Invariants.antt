use Rattle.std.proofs.Common.{◌≡◌, ◌++◌, drop, length, map}
use Rattle.std.specs.List.{concat}
use Rattle.std.specs.String.{string_bytes}
use Rattle.svid_c.proofs.token_says.push_all.Given as goal

-- the texts so far, and then those of the names that are left
abbrev pub invariant-loop-name : goal.invariant-loop-name
invariant-loop-name l =
    (l.initial.texts.bytes.items ++ concat (map string_bytes l.names) ≡ l.texts.bytes.items ++ concat (map string_bytes (drop l.name-index l.names)))
    × (l.initial.texts.lens.items ++ map length (map string_bytes l.names) ≡ l.texts.lens.items ++ map length (map string_bytes (drop l.name-index l.names)))
