-- Values in DER.
use Rattle.std.proofs.Common.{◌≡◌, [], ◌∷◌, refl}
use Rattle.svid_spki.specs.Der.{der}
use Rattle.svid_spki.specs.Spki.{rsa_encryption}

-- the algorithm of RSA keys, as it is written
pub rsa_encryption_is : rsa_encryption ≡ 0x06 ∷ 0x09 ∷ 0x2a ∷ 0x86 ∷ 0x48 ∷ 0x86 ∷ 0xf7 ∷ 0x0d ∷ 0x01 ∷ 0x01 ∷ 0x01 ∷ 0x05 ∷ 0x00 ∷ []
unfolding der
rsa_encryption_is = refl
