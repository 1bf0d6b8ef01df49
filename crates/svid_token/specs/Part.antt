-- The parts of a token as base64url (RFC 4648, section 5, without padding; RFC 7515, section 2).
use Rattle.std.specs.Prelude.{◌≡◌, ℕ, is_none, List, [], ◌∷◌, Option, None, Result}
use Rattle.base64.specs.Engines.{url_safe_no_pad}
use Rattle.base64.specs.GeneralPurpose.{IsBytes, decoded_of, encode_of}
use Rattle.svid_token.specs.Rows.{first_row, judged}
use Rattle.svid_token.specs.declared.part.PartFault.{PartFault}
use Rattle.svid_token.specs.declared.part.PartFault.TheVariants.{Spelling, OutOfMemory}
use Rattle.svid_token.specs.declared.refusal.Refusal.{Refusal}

-- a part spells bytes where it is their encoding
unfoldable pub Spells : List ℕ → List ℕ → Type 0
Spells part bytes = part ≡ encode_of url_safe_no_pad bytes

-- a part is the encoding of no bytes
abbrev pub SpellsNothing : List ℕ → Type 0
SpellsNothing part = (bytes : List ℕ) → IsBytes bytes → ¬ Spells part bytes

-- the bytes that a part spells, if it spells any
unfoldable pub part_bytes : List ℕ → Option (List ℕ)
part_bytes part = decoded_of url_safe_no_pad part

-- the answer that is due to a part that is refused for its spelling alone
abbrev pub bytes_due : Refusal → List ℕ → Result (Option (List ℕ)) Refusal
bytes_due spelling part = judged (first_row ((spelling, is_none (part_bytes part)) ∷ [])) (part_bytes part)

-- why a part was not decoded
abbrev pub IsPartFault : List ℕ → PartFault → Type 0
IsPartFault part Spelling = SpellsNothing part × (part_bytes part ≡ None)
IsPartFault part OutOfMemory = Unit {0}
