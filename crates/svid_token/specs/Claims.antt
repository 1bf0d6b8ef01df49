-- The claims of a payload (RFC 7519, section 4.1; JWT-SVID, section 3).
use Rattle.std.specs.Prelude.{ℕ, List, [], ◌∷◌, codes, map, Option, Some, None, option_map, option_and_then, Result, string_bytes}
use Rattle.std.specs.Option.{option_or}
use Rattle.serde_json.specs.Data.{Data, Items, no_items, item}
use Rattle.serde_json.specs.Find.{as_array, as_str, get}
use Rattle.svid_id.specs.Id.{IdParts, id_parts}
use Rattle.svid_token.specs.Json.{as_time, member, text_at, time_at}
use Rattle.svid_token.specs.Rows.{Row, fails, first_row, judged}
use Rattle.svid_token.specs.declared.claims.Claims.{Claims}
use Rattle.svid_token.specs.declared.refusal.Refusal.{Refusal}
use Rattle.svid_token.specs.declared.refusal.Refusal.TheVariants.{Sub, Aud, Exp, Nbf, Jti}

-- what claims say: none for a member that is not there, or not as it must be
pub record ClaimsSaid : Type 0 where
  pub sub : Option IdParts
  pub aud : Option (List (List ℕ))
  pub exp : Option ℕ
  pub nbf : Option ℕ
  pub jti : Option (List ℕ)

-- the subject, a SPIFFE ID (RFC 7519, section 4.1.2; JWT-SVID, section 3.1)
unfoldable pub subject_at : Data → Option IdParts
subject_at d = option_and_then id_parts (text_at (codes "sub") d)

-- the texts of a list of texts, none where an item is no text
abbrev pub texts : Items → Option (List (List ℕ))
texts no_items = Some []
texts (item d ds) = option_and_then (λ text. option_map (λ more. text ∷ more) (texts ds)) (as_str d)

-- a list, none where it is empty
abbrev pub one_or_more : List (List ℕ) → Option (List (List ℕ))
one_or_more [] = None
one_or_more (x ∷ xs) = Some (x ∷ xs)

-- audiences: a text, which is one, or a list of one or more texts
abbrev pub as_audiences : Data → Option (List (List ℕ))
as_audiences d = option_or (option_map (λ text. text ∷ []) (as_str d))
    (option_and_then one_or_more (option_and_then texts (as_array d)))

-- the audiences of a token (RFC 7519, section 4.1.3; JWT-SVID, section 3.2)
unfoldable pub audiences_at : Data → Option (List (List ℕ))
audiences_at d = option_and_then as_audiences (get (codes "aud") d)

-- the refusals of claims: the expiry (RFC 7519, section 4.1.4; JWT-SVID, section 3.3) must be there too, while the first
-- moment of validity (section 4.1.5) and the token's ID (section 4.1.7) may be left out
abbrev pub claims_rows : Option Data → List Row
claims_rows object =
    (Sub, fails subject_at object)
    ∷ (Aud, fails audiences_at object)
    ∷ (Exp, fails (time_at (codes "exp")) object)
    ∷ (Nbf, fails as_time (member (codes "nbf") object))
    ∷ (Jti, fails as_str (member (codes "jti") object))
    ∷ []

-- what a payload's object says
abbrev pub claims_said : Option Data → ClaimsSaid
claims_said object = record {
  sub = option_and_then subject_at object;
  aud = option_and_then audiences_at object;
  exp = option_and_then (time_at (codes "exp")) object;
  nbf = option_and_then (time_at (codes "nbf")) object;
  jti = option_and_then (text_at (codes "jti")) object;
}

-- the answer that is due to a payload's object
abbrev pub claims_of : Option Data → Result ClaimsSaid Refusal
claims_of object = judged (first_row (claims_rows object)) (claims_said object)

-- what contracts see of claims
abbrev pub claims_view : Claims → ClaimsSaid
claims_view claims = record {
  sub = Some claims.sub;
  aud = Some (map string_bytes claims.aud.items);
  exp = Some claims.exp;
  nbf = claims.nbf;
  jti = option_map string_bytes claims.jti;
}
