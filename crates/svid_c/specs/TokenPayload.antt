-- What a call tells of a token's payload.
use Rattle.std.specs.Prelude.{◌≡◌, ℕ, List, length, Some, Ok, Err}
use Rattle.svid_token.specs.Compact.{Parts, compact_of}
use Rattle.svid_token.specs.Part.{bytes_due}
use Rattle.svid_token.specs.Rows.{Refuses}
use Rattle.svid_token.specs.declared.refusal.Refusal.{Refusal}
use Rattle.svid_token.specs.declared.refusal.Refusal.TheVariants.{PayloadSpelling}
use Rattle.svid_c.specs.Checked.{refusal_number}
use Rattle.svid_c.specs.Status.{told_length}
use Rattle.svid_c.specs.Written.{IsPut}
use Rattle.svid_c.specs.declared.told.SvidTold.{SvidTold}

-- the payload of a token is put, or has no room (RFC 7515, section 5.2); or the token has not the form of one; or its second part spells no
-- bytes, or memory was refused
pub data PutsPayload (token : List ℕ) (status : ℕ) (told : SvidTold) (old new : List ℕ) : Type 0 where
  payload_put : (p : Parts) (payload : List ℕ) → compact_of token ≡ Ok (Some p) → bytes_due PayloadSpelling p.payload ≡ Ok (Some payload)
      → IsPut payload status old new → told ≡ told_length (length payload) → PutsPayload token status told old new
  has_no_parts : (why : Refusal) → compact_of token ≡ Err why → status ≡ refusal_number why → told ≡ told_length 0 → new ≡ old
      → PutsPayload token status told old new
  spells_none : (p : Parts) (why : Refusal) → compact_of token ≡ Ok (Some p) → Refuses why (bytes_due PayloadSpelling p.payload)
      → status ≡ refusal_number why → told ≡ told_length 0 → new ≡ old → PutsPayload token status told old new
