-- The keys that may have signed a token (RFC 7518, section 3.1; RFC 7515, section 4.1.4).
use Rattle.std.specs.Prelude.{ℕ, ◌&&◌, Bool, true, false, List, [], bytes_eq, filter, find, Option, Some, None, option_map, unwrap_or}
use Rattle.svid_token.specs.Alg.{kty_of}
use Rattle.svid_token.specs.declared.alg.Alg.{Alg}
use Rattle.svid_token.specs.declared.kty.Kty.{Kty}
use Rattle.svid_token.specs.declared.kty.Kty.TheVariants.{Rsa, Ec}
use Rattle.svid_keys.specs.Bundles.{Bundle}
use Rattle.svid_keys.specs.Key.{KeyData}
use Rattle.svid_keys.specs.declared.candidates.Candidates.{Candidates}

-- the bundle of a trust domain, if there is one
abbrev pub bundle_at : List ℕ → List Bundle → Option Bundle
bundle_at domain bundles = find (λ bundle. bytes_eq domain bundle.name) bundles

-- the keys of a trust domain, none where it has no bundle
abbrev pub keys_at : List ℕ → List Bundle → List KeyData
keys_at domain bundles = unwrap_or (option_map (λ bundle. bundle.keys) (bundle_at domain bundles)) []

-- two families are one
abbrev pub same_kty : Kty → Kty → Bool
same_kty Rsa Rsa = true
same_kty Ec Ec = true
same_kty _ _ = false

-- a key has the name that a token gives, if it gives one
abbrev pub is_named : Option (List ℕ) → KeyData → Bool
is_named None key = true
is_named (Some kid) key = bytes_eq key.kid kid

-- a key may have signed a token of this algorithm that names its key so
abbrev pub may_sign : Kty → Option (List ℕ) → KeyData → Bool
may_sign kty kid key = same_kty key.kty kty && is_named kid key

-- the candidates for a token: of the keys of its trust domain, those that may have signed it, in the order of the list
abbrev pub candidates_of : List Bundle → List ℕ → Alg → Option (List ℕ) → List KeyData
candidates_of bundles domain alg kid = filter (may_sign (kty_of alg) kid) (keys_at domain bundles)

-- the candidates that an iterator has still to give
abbrev pub candidates_left : Candidates → List KeyData
candidates_left c = filter (may_sign c.kty (option_map (λ kid. kid.now) c.kid)) c.keys.now
