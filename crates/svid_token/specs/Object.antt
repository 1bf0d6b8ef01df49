-- A part that is to spell a JSON object (RFC 7515, section 4; RFC 7519, section 7.2).
use Rattle.std.specs.Prelude.{ℕ, is_none, List, [], ◌∷◌, Option, Result, option_and_then}
use Rattle.serde_json.specs.Data.{Data}
use Rattle.svid_token.specs.Json.{object_of}
use Rattle.svid_token.specs.Part.{part_bytes}
use Rattle.svid_token.specs.Rows.{Row, fails, first_row, judged}
use Rattle.svid_token.specs.declared.refusal.Refusal.{Refusal}

-- the JSON object that a part spells, if it spells one
abbrev pub part_object : List ℕ → Option Data
part_object part = option_and_then object_of (part_bytes part)

-- the refusals of a part that is to spell an object, for its spelling and for what it spells
abbrev pub object_rows : Refusal → Refusal → List ℕ → List Row
object_rows spelling not_object part =
    (spelling, is_none (part_bytes part))
    ∷ (not_object, fails object_of (part_bytes part))
    ∷ []

-- the answer that is due to a part that is to spell an object
abbrev pub object_due : Refusal → Refusal → List ℕ → Result (Option Data) Refusal
object_due spelling not_object part = judged (first_row (object_rows spelling not_object part)) (part_object part)
