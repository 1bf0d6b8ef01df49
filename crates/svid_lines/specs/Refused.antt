-- The output for a token that is refused.
use Rattle.std.specs.Prelude.{ℕ, List, [], ◌∷◌, ◌++◌, codes, Option, None, Some, option_map}
use Rattle.svid_token.specs.declared.refusal.Refusal.{Refusal}
use Rattle.svid_token.specs.declared.refusal.Refusal.TheVariants as token

-- the name of a refusal: out of memory has none
abbrev pub refusal_name : Refusal → Option (List ℕ)
refusal_name token.TooLong = Some (codes "TooLong")
refusal_name token.NotThreeParts = Some (codes "NotThreeParts")
refusal_name token.HeaderSpelling = Some (codes "HeaderSpelling")
refusal_name token.HeaderNotObject = Some (codes "HeaderNotObject")
refusal_name token.Crit = Some (codes "Crit")
refusal_name token.Alg = Some (codes "Alg")
refusal_name token.Typ = Some (codes "Typ")
refusal_name token.Kid = Some (codes "Kid")
refusal_name token.PayloadSpelling = Some (codes "PayloadSpelling")
refusal_name token.PayloadNotObject = Some (codes "PayloadNotObject")
refusal_name token.SignatureSpelling = Some (codes "SignatureSpelling")
refusal_name token.Sub = Some (codes "Sub")
refusal_name token.Aud = Some (codes "Aud")
refusal_name token.Exp = Some (codes "Exp")
refusal_name token.Nbf = Some (codes "Nbf")
refusal_name token.Jti = Some (codes "Jti")
refusal_name token.NotAudience = Some (codes "NotAudience")
refusal_name token.Expired = Some (codes "Expired")
refusal_name token.NotYet = Some (codes "NotYet")
refusal_name token.TooLongLived = Some (codes "TooLongLived")
refusal_name token.UnknownDomain = Some (codes "UnknownDomain")
refusal_name token.NoKey = Some (codes "NoKey")
refusal_name token.BadSignature = Some (codes "BadSignature")
refusal_name token.Withdrawn = Some (codes "Withdrawn")
refusal_name token.Replayed = Some (codes "Replayed")
refusal_name token.OutOfMemory = None

-- the line of a refusal with this name
abbrev pub named_line : List ℕ → List ℕ
named_line name = codes "refused " ++ name ++ 10 ∷ []

-- the line of a token that is refused: none when out of memory
abbrev pub refusal_line : Refusal → Option (List ℕ)
refusal_line refusal = option_map named_line (refusal_name refusal)
