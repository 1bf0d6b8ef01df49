-- Keys as JSON: which can be used with an algorithm, and what they are (RFC 7517, section 4; RFC 7518, section 6).
use Rattle.std.specs.Prelude.{ℕ, ◌^◌, ◌==◌, ◌&&◌, Bool, true, false, not, nat_le, nat_lt, is_none, if◌then◌else◌, List, [], ◌∷◌, length, codes, bytes_eq, Option, Some, None, option_and_then, option_map, Result, Ok, Err}
use Rattle.std.specs.Option.{option_map_or}
use Rattle.serde_json.specs.Data.{Data}
use Rattle.serde_json.specs.Find.{as_str, get}
use Rattle.svid_token.specs.Alg.{kty_of, name_of}
use Rattle.svid_token.specs.Json.{object_of, text_at}
use Rattle.svid_token.specs.Part.{part_bytes}
use Rattle.svid_token.specs.declared.alg.Alg.{Alg}
use Rattle.svid_token.specs.declared.kty.Kty.{Kty}
use Rattle.svid_token.specs.declared.kty.Kty.TheVariants.{Rsa, Ec}
use Rattle.svid_spki.specs.Number.{bits, is_number, is_odd, value}
use Rattle.svid_spki.specs.Rows.{Row, first_row, holds_of, unless}
use Rattle.svid_spki.specs.Spki.{coordinate_len, curve_name, curve_of, ec_spki, rsa_spki}
use Rattle.svid_spki.specs.declared.curve.Curve.{Curve}
use Rattle.svid_spki.specs.declared.key_fault.KeyFault.{KeyFault}
use Rattle.svid_spki.specs.declared.key_fault.KeyFault.TheVariants.{NotObject, Kty as BadKty, Alg as BadAlg, N, Bits, E, Crv, X, Y}

-- the name of a family of keys (RFC 7518, section 6.1)
abbrev pub kty_name : Kty → List ℕ
kty_name Rsa = codes "RSA"
kty_name Ec = codes "EC"

-- a member is this text
abbrev pub is_text_at : List ℕ → List ℕ → Data → Bool
is_text_at name text key = option_map_or (λ said. bytes_eq said text) (text_at name key) false

-- a key is of the family that signs by an algorithm (RFC 7517, section 4.1)
abbrev pub is_of_family : Alg → Data → Bool
is_of_family alg key = is_text_at (codes "kty") (kty_name (kty_of alg)) key

-- a key may be used with an algorithm: it names this one, or none (RFC 7517, section 4.4)
abbrev pub is_for : Alg → Data → Bool
is_for alg key = option_map_or (λ said. option_map_or (λ name. bytes_eq name (name_of alg)) (as_str said) false) (get (codes "alg") key) true

-- the bytes that a member spells in base64url (RFC 7518, section 6.2.1.2)
abbrev pub bytes_at : List ℕ → Data → Option (List ℕ)
bytes_at name key = option_and_then part_bytes (text_at name key)

-- the number above 0 that a member is, in as few bytes as hold it (RFC 7518, section 2, Base64urlUInt)
abbrev pub number_at : List ℕ → Data → Option (List ℕ)
number_at name key = option_and_then (λ bytes. if is_number bytes then Some bytes else None) (bytes_at name key)

-- the modulus, which is odd, as each of its primes is (RFC 7518, section 6.3.1.1; RFC 8017, section 3.1)
abbrev pub modulus_at : Data → Option (List ℕ)
modulus_at key = option_and_then (λ n. if is_odd n then Some n else None) (number_at (codes "n") key)

-- a modulus has 2,048 bits or more (RFC 7518, section 3.3), and at most as many as the caller allows, and 16,384
abbrev pub has_bits : ℕ → List ℕ → Bool
has_bits most n = nat_le 2048 (bits n) && nat_le (bits n) most && nat_le (bits n) 16384

-- an exponent is odd, at least 3, and below 2^31 (RFC 8017, section 3.1)
abbrev pub is_exponent : List ℕ → Bool
is_exponent e = is_odd e && nat_le 3 (value e) && nat_lt (value e) (2 ^ 31)

-- the exponent (RFC 7518, section 6.3.1.2)
abbrev pub exponent_at : Data → Option (List ℕ)
exponent_at key = option_and_then (λ e. if is_exponent e then Some e else None) (number_at (codes "e") key)

-- the faults of an RSA key
abbrev pub rsa_rows : ℕ → Data → List Row
rsa_rows most key =
    (N, is_none (modulus_at key))
    ∷ (Bits, holds_of (modulus_at key) (λ n. not (has_bits most n)))
    ∷ (E, is_none (exponent_at key))
    ∷ []

-- what an RSA key says
abbrev pub rsa_said : Data → Option (List ℕ)
rsa_said key = option_and_then (λ n. option_map (λ e. rsa_spki n e) (exponent_at key)) (modulus_at key)

-- the answer that is due to an RSA key
abbrev pub rsa_due : ℕ → Data → Result (Option (List ℕ)) KeyFault
rsa_due most key = unless (first_row (rsa_rows most key)) (Ok (rsa_said key))

-- a coordinate, of the full length of the curve's (RFC 7518, sections 6.2.1.2 and 6.2.1.3)
abbrev pub coordinate_at : List ℕ → Curve → Data → Option (List ℕ)
coordinate_at name curve key = option_and_then (λ bytes. if length bytes == coordinate_len curve then Some bytes else None) (bytes_at name key)

-- the faults of an EC key
abbrev pub ec_rows : Curve → Data → List Row
ec_rows curve key =
    (Crv, not (is_text_at (codes "crv") (curve_name curve) key))
    ∷ (X, is_none (coordinate_at (codes "x") curve key))
    ∷ (Y, is_none (coordinate_at (codes "y") curve key))
    ∷ []

-- what an EC key says
abbrev pub ec_said : Curve → Data → Option (List ℕ)
ec_said curve key = option_and_then (λ x. option_map (λ y. ec_spki curve x y) (coordinate_at (codes "y") curve key)) (coordinate_at (codes "x") curve key)

-- the answer that is due to an EC key
abbrev pub ec_due : Curve → Data → Result (Option (List ℕ)) KeyFault
ec_due curve key = unless (first_row (ec_rows curve key)) (Ok (ec_said curve key))

-- the answer that is due to the members of a key on a curve, or of an RSA key
abbrev pub members_due : ℕ → Option Curve → Data → Result (Option (List ℕ)) KeyFault
members_due most None key = rsa_due most key
members_due most (Some curve) key = ec_due curve key

-- the faults of any key
abbrev pub key_rows : Alg → Data → List Row
key_rows alg key = (BadKty, not (is_of_family alg key)) ∷ (BadAlg, not (is_for alg key)) ∷ []

-- the answer that is due to a JSON object
abbrev pub object_due : ℕ → Alg → Data → Result (Option (List ℕ)) KeyFault
object_due most alg key = unless (first_row (key_rows alg key)) (members_due most (curve_of alg) key)

-- the answer that is due to a text, if it is to be a key for an algorithm, and of an RSA key at most so many bits are allowed
abbrev pub spki_due : ℕ → Alg → List ℕ → Result (Option (List ℕ)) KeyFault
spki_due most alg text = option_map_or (object_due most alg) (object_of text) (Err NotObject)
