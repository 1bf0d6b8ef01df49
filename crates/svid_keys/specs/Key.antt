-- Keys of a trust bundle (RFC 7517, sections 4 and 5; SPIFFE Trust Domain and Bundle, section 4).
use Rattle.std.specs.Prelude.{◌≡◌, ℕ, ◌≤◌, ◌&&◌, Bool, false, not, nat_le, if◌then◌else◌, IsSome, List, length, codes, bytes_eq, Option, Some, None, option_and_then, option_map}
use Rattle.std.specs.Option.{option_map_or}
use Rattle.serde_json.specs.Data.{Data}
use Rattle.serde_json.specs.Find.{as_object}
use Rattle.serde_json.specs.Written.{compact_text, has_float}
use Rattle.svid_token.specs.Json.{text_at}
use Rattle.svid_token.specs.declared.kty.Kty.{Kty}
use Rattle.svid_token.specs.declared.kty.Kty.TheVariants.{Rsa, Ec}

-- a key: the trust domain that it speaks for, its name, its family, and its entry as compact JSON
pub record KeyData : Type 0 where
  pub domain : List ℕ
  pub kid : List ℕ
  pub kty : Kty
  pub text : List ℕ

-- the most bytes of a key's text
abbrev pub most_key_bytes : ℕ
most_key_bytes = 65536

-- the family of a name (RFC 7518, section 6.1)
abbrev pub kty_named : List ℕ → Option Kty
kty_named name = if bytes_eq name (codes "RSA") then Some Rsa else if bytes_eq name (codes "EC") then Some Ec else None

-- the family of an entry (RFC 7517, section 4.1)
abbrev pub kty_in : Data → Option Kty
kty_in entry = option_and_then kty_named (text_at (codes "kty") entry)

-- an entry is for JWT-SVIDs (RFC 7517, section 4.2; SPIFFE Trust Domain and Bundle, section 4.2.2)
abbrev pub is_for_svids : Data → Bool
is_for_svids entry = option_map_or (λ use_. bytes_eq use_ (codes "jwt-svid")) (text_at (codes "use") entry) false

-- an entry of the bundle of a domain is this key: it is for JWT-SVIDs, names its key and its family, holds whole numbers
-- of 64 bits alone, and is not too long
pub record IsKey (name : List ℕ) (entry : Data) (key : KeyData) : Type 0 where
  pub object : IsSome (as_object entry)
  pub purpose : text_at (codes "use") entry ≡ Some (codes "jwt-svid")
  pub kid : text_at (codes "kid") entry ≡ Some key.kid
  pub kty : kty_in entry ≡ Some key.kty
  pub whole : has_float entry ≡ false
  pub text : key.text ≡ compact_text entry
  pub not_long : length key.text ≤ most_key_bytes
  pub domain : key.domain ≡ name

-- an entry is a key, if it has a name and a family
abbrev pub is_usable : Data → Bool
is_usable entry = is_for_svids entry && not (has_float entry) && nat_le (length (compact_text entry)) most_key_bytes

-- the key that an entry of the bundle of a domain is, if it is one
abbrev pub kept_key : List ℕ → Data → Option KeyData
kept_key domain entry =
    if is_usable entry then option_and_then (λ kid. option_map (λ kty. record { domain = domain; kid = kid; kty = kty; text = compact_text entry }) (kty_in entry)) (text_at (codes "kid") entry)
    else None
