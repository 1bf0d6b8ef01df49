-- The signature of a token (RFC 7515, section 7.1).
use Rattle.std.specs.Prelude.{ℕ, ◌||◌, ◌==◌, is_none, List, [], ◌∷◌, length, Option, Result}
use Rattle.svid_token.specs.Part.{part_bytes}
use Rattle.svid_token.specs.Rows.{Row, first_row, judged}
use Rattle.svid_token.specs.declared.refusal.Refusal.{Refusal}
use Rattle.svid_token.specs.declared.refusal.Refusal.TheVariants.{SignatureSpelling}

-- the refusals of a signature
abbrev pub signature_rows : List ℕ → List Row
signature_rows part = (SignatureSpelling, (length part == 0) || is_none (part_bytes part)) ∷ []

-- the answer that is due to a signature
abbrev pub signature_of : List ℕ → Result (Option (List ℕ)) Refusal
signature_of part = judged (first_row (signature_rows part)) (part_bytes part)
