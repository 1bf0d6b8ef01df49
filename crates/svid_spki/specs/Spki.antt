-- Keys as SubjectPublicKeyInfo (RFC 5280, section 4.1.2.7).
use Rattle.std.specs.Prelude.{ℕ, List, [], ◌∷◌, ◌++◌, codes, Option, Some, None}
use Rattle.svid_spki.specs.Der.{bit_string, der, integer, sequence}
use Rattle.svid_spki.specs.declared.curve.Curve.{Curve}
use Rattle.svid_spki.specs.declared.curve.Curve.TheVariants.{P256, P384, P521}
use Rattle.svid_token.specs.declared.alg.Alg.{Alg}
use Rattle.svid_token.specs.declared.alg.Alg.TheVariants.{Rs256, Rs384, Rs512, Es256, Es384, Es512, Ps256, Ps384, Ps512}

-- a key, and the algorithm that it is for
abbrev pub spki : List ℕ → List ℕ → List ℕ
spki algorithm key = sequence (sequence algorithm ++ bit_string key)

-- an object identifier: its components, as section 8.19 of X.690 encodes them
abbrev pub object_identifier : List ℕ → List ℕ
object_identifier components = der 0x06 components

-- rsaEncryption, which is 1.2.840.113549.1.1.1, and NULL (RFC 3279, section 2.3.1)
abbrev pub rsa_encryption : List ℕ
rsa_encryption = object_identifier (0x2a ∷ 0x86 ∷ 0x48 ∷ 0x86 ∷ 0xf7 ∷ 0x0d ∷ 0x01 ∷ 0x01 ∷ 0x01 ∷ []) ++ der 0x05 []

-- an RSA key of this modulus and exponent: RSAPublicKey (RFC 3279, section 2.3.1)
abbrev pub rsa_spki : List ℕ → List ℕ → List ℕ
rsa_spki n e = spki rsa_encryption (sequence (integer n ++ integer e))

-- the curve of an algorithm, if it has one (RFC 7518, section 3.4)
abbrev pub curve_of : Alg → Option Curve
curve_of Es256 = Some P256
curve_of Es384 = Some P384
curve_of Es512 = Some P521
curve_of Rs256 = None
curve_of Rs384 = None
curve_of Rs512 = None
curve_of Ps256 = None
curve_of Ps384 = None
curve_of Ps512 = None

-- the name of a curve (RFC 7518, section 6.2.1.1)
abbrev pub curve_name : Curve → List ℕ
curve_name P256 = codes "P-256"
curve_name P384 = codes "P-384"
curve_name P521 = codes "P-521"

-- how many bytes a coordinate has (RFC 7518, section 6.2.1.2)
abbrev pub coordinate_len : Curve → ℕ
coordinate_len P256 = 32
coordinate_len P384 = 48
coordinate_len P521 = 66

-- secp256r1, 1.2.840.10045.3.1.7; secp384r1, 1.3.132.0.34; secp521r1, 1.3.132.0.35 (RFC 5480, section 2.1.1.1)
abbrev pub named_curve : Curve → List ℕ
named_curve P256 = object_identifier (0x2a ∷ 0x86 ∷ 0x48 ∷ 0xce ∷ 0x3d ∷ 0x03 ∷ 0x01 ∷ 0x07 ∷ [])
named_curve P384 = object_identifier (0x2b ∷ 0x81 ∷ 0x04 ∷ 0x00 ∷ 0x22 ∷ [])
named_curve P521 = object_identifier (0x2b ∷ 0x81 ∷ 0x04 ∷ 0x00 ∷ 0x23 ∷ [])

-- id-ecPublicKey, which is 1.2.840.10045.2.1 (RFC 5480, section 2.1.1)
abbrev pub ec_public_key : List ℕ
ec_public_key = object_identifier (0x2a ∷ 0x86 ∷ 0x48 ∷ 0xce ∷ 0x3d ∷ 0x02 ∷ 0x01 ∷ [])

-- an EC key of this curve and these coordinates: its point, uncompressed (RFC 5480, section 2.2)
abbrev pub ec_spki : Curve → List ℕ → List ℕ → List ℕ
ec_spki curve x y = spki (ec_public_key ++ named_curve curve) (0x04 ∷ x ++ y)
