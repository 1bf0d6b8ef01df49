-- The signature algorithms of a JWT-SVID, their names and their keys.
use Rattle.std.specs.Prelude.{ℕ, List, [], ◌∷◌, codes, bytes_eq, Option, find}
use Rattle.svid_token.specs.declared.alg.Alg.{Alg}
use Rattle.svid_token.specs.declared.alg.Alg.TheVariants.{Rs256, Rs384, Rs512, Es256, Es384, Es512, Ps256, Ps384, Ps512}
use Rattle.svid_token.specs.declared.kty.Kty.{Kty}
use Rattle.svid_token.specs.declared.kty.Kty.TheVariants.{Rsa, Ec}

-- the name that a header gives an algorithm (RFC 7518, section 3.1)
abbrev pub name_of : Alg → List ℕ
name_of Rs256 = codes "RS256"
name_of Rs384 = codes "RS384"
name_of Rs512 = codes "RS512"
name_of Es256 = codes "ES256"
name_of Es384 = codes "ES384"
name_of Es512 = codes "ES512"
name_of Ps256 = codes "PS256"
name_of Ps384 = codes "PS384"
name_of Ps512 = codes "PS512"

-- the algorithms that a JWT-SVID may be signed with (JWT-SVID, section 2.1)
abbrev pub svid_algs : List Alg
svid_algs = Rs256 ∷ Rs384 ∷ Rs512 ∷ Es256 ∷ Es384 ∷ Es512 ∷ Ps256 ∷ Ps384 ∷ Ps512 ∷ []

-- the algorithm of a name
abbrev pub alg_named : List ℕ → Option Alg
alg_named name = find (λ alg. bytes_eq name (name_of alg)) svid_algs

-- the family of the keys that an algorithm signs with (RFC 7518, section 3.1)
abbrev pub kty_of : Alg → Kty
kty_of Rs256 = Rsa
kty_of Rs384 = Rsa
kty_of Rs512 = Rsa
kty_of Es256 = Ec
kty_of Es384 = Ec
kty_of Es512 = Ec
kty_of Ps256 = Rsa
kty_of Ps384 = Rsa
kty_of Ps512 = Rsa
