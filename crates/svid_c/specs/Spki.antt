-- What the call on a key does.
use Rattle.std.specs.Prelude.{◌≡◌, ℕ, List, length, Some, None, Ok}
use Rattle.svid_token.specs.Alg.{alg_named}
use Rattle.svid_token.specs.declared.alg.Alg.{Alg}
use Rattle.svid_spki.specs.Jwk.{spki_due}
use Rattle.svid_spki.specs.Rows.{Refuses}
use Rattle.svid_spki.specs.declared.key_fault.KeyFault.{KeyFault}
use Rattle.svid_spki.specs.declared.key_fault.KeyFault.TheVariants as key
use Rattle.svid_c.specs.Status.{told_length}
use Rattle.svid_c.specs.Written.{IsPut}
use Rattle.svid_c.specs.declared.told.SvidTold.{SvidTold}

-- why a key can't be used
abbrev pub key_number : KeyFault → ℕ
key_number key.OutOfMemory = 2
key_number key.NotObject = 71
key_number key.Kty = 72
key_number key.Alg = 73
key_number key.N = 74
key_number key.Bits = 75
key_number key.E = 76
key_number key.Crv = 77
key_number key.X = 78
key_number key.Y = 79

-- The key that a text is, for the algorithm of a name, is put, or has no room; or it can't be used with that; or no algorithm has the name.
pub data PutsKey (text name : List ℕ) (most status : ℕ) (told : SvidTold) (old new : List ℕ) : Type 0 where
  key_put : (alg : Alg) (der : List ℕ) → alg_named name ≡ Some alg → spki_due most alg text ≡ Ok (Some der)
      → IsPut der status old new → told ≡ told_length (length der) → PutsKey text name most status told old new
  unusable : (alg : Alg) (fault : KeyFault) → alg_named name ≡ Some alg → Refuses fault (spki_due most alg text)
      → status ≡ key_number fault → told ≡ told_length 0 → new ≡ old → PutsKey text name most status told old new
  no_algorithm : alg_named name ≡ None → status ≡ 70 → told ≡ told_length 0 → new ≡ old → PutsKey text name most status told old new
