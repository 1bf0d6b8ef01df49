-- The header of a token (RFC 7515, section 4; JWT-SVID, section 2).
use Rattle.std.specs.Prelude.{ℕ, ◌||◌, if◌then◌else◌, is_some, List, [], ◌∷◌, ◌++◌, codes, bytes_eq, Option, Some, None, option_map, option_and_then, Result, string_bytes}
use Rattle.serde_json.specs.Data.{Data}
use Rattle.serde_json.specs.Find.{as_str}
use Rattle.svid_token.specs.Alg.{alg_named}
use Rattle.svid_token.specs.Json.{member, text_at}
use Rattle.svid_token.specs.Object.{object_rows, part_object}
use Rattle.svid_token.specs.Rows.{Row, fails, first_row, judged}
use Rattle.svid_token.specs.declared.alg.Alg.{Alg}
use Rattle.svid_token.specs.declared.header.Header.{Header}
use Rattle.svid_token.specs.declared.refusal.Refusal.{Refusal}
use Rattle.svid_token.specs.declared.refusal.Refusal.TheVariants.{HeaderSpelling, HeaderNotObject, Crit, Alg as BadAlg, Typ, Kid}

-- what a header says: none for a member that is not there, or not as it must be
pub record HeaderSaid : Type 0 where
  pub alg : Option Alg
  pub kid : Option (List ℕ)

-- the algorithm (RFC 7515, section 4.1.1; JWT-SVID, section 2.1)
abbrev pub alg_at : Data → Option Alg
alg_at d = option_and_then alg_named (text_at (codes "alg") d)

-- a type that the header of a JWT-SVID may name (JWT-SVID, section 2.3)
abbrev pub as_type : Data → Option (List ℕ)
as_type d = option_and_then
    (λ text. if bytes_eq text (codes "JWT") || bytes_eq text (codes "JOSE") then Some text else None) (as_str d)

-- the refusals of a header's object: no extension is understood (RFC 7515, section 4.1.11), the algorithm is one of nine,
-- and a type (section 4.1.9) and a key ID (section 4.1.4) may be left out
abbrev pub header_object_rows : Option Data → List Row
header_object_rows object =
    (Crit, is_some (member (codes "crit") object))
    ∷ (BadAlg, fails alg_at object)
    ∷ (Typ, fails as_type (member (codes "typ") object))
    ∷ (Kid, fails as_str (member (codes "kid") object))
    ∷ []

-- the refusals of a header
abbrev pub header_rows : List ℕ → List Row
header_rows part = object_rows HeaderSpelling HeaderNotObject part ++ header_object_rows (part_object part)

-- what a header's object says
abbrev pub header_said : Option Data → HeaderSaid
header_said object = record { alg = option_and_then alg_at object; kid = option_and_then (text_at (codes "kid")) object }

-- the answer that is due to a header's object
abbrev pub header_from : Option Data → Result HeaderSaid Refusal
header_from object = judged (first_row (header_object_rows object)) (header_said object)

-- the answer that is due to a header
abbrev pub header_of : List ℕ → Result HeaderSaid Refusal
header_of part = judged (first_row (header_rows part)) (header_said (part_object part))

-- what contracts see of a header
abbrev pub header_view : Header → HeaderSaid
header_view header = record { alg = Some header.alg; kid = option_map string_bytes header.kid }
