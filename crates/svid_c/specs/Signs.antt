-- What a call answers about a token's signature.
use Rattle.std.specs.Prelude.{◌≡◌, ℕ, List, length, Some, Ok, Err}
use Rattle.svid_token.specs.Compact.{Parts, compact_of, signing_input}
use Rattle.svid_token.specs.Rows.{Refuses}
use Rattle.svid_token.specs.Signature.{signature_of}
use Rattle.svid_token.specs.declared.refusal.Refusal.{Refusal}
use Rattle.svid_c.specs.Checked.{refusal_number}
use Rattle.svid_c.specs.Status.{told_length}
use Rattle.svid_c.specs.Written.{IsPut}
use Rattle.svid_c.specs.declared.token_signature.SvidSigned.{SvidSigned}
use Rattle.svid_c.specs.declared.told.SvidTold.{SvidTold}

-- The signature of a token is written, or has no room, and the answer is how many bytes it covers. Or the token has not the form of one, or its
-- third part encodes no signature, or memory was refused.
pub data Signs (token : List ℕ) (status : ℕ) (told : SvidTold) (old_signed new_signed : SvidSigned) (old new : List ℕ) : Type 0 where
  signs : (p : Parts) (signature : List ℕ) → compact_of token ≡ Ok (Some p) → signature_of p.signature ≡ Ok (Some signature)
      → IsPut signature status old new → told ≡ told_length (length signature) → new_signed ≡ record { len = length (signing_input p.header p.payload) }
      → Signs token status told old_signed new_signed old new
  has_no_parts : (why : Refusal) → compact_of token ≡ Err why → status ≡ refusal_number why → told ≡ told_length 0
      → new_signed ≡ old_signed → new ≡ old → Signs token status told old_signed new_signed old new
  spells_none : (p : Parts) (why : Refusal) → compact_of token ≡ Ok (Some p) → Refuses why (signature_of p.signature) → status ≡ refusal_number why
      → told ≡ told_length 0 → new_signed ≡ old_signed → new ≡ old → Signs token status told old_signed new_signed old new
