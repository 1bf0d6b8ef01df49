-- Entries of a JWK Set: the text of the key for JWT-SVIDs that one is, or why it is none (RFC 7517, sections 4 and 5; SPIFFE Trust Domain
-- and Bundle, section 4).
use Rattle.std.specs.Prelude.{◌≡◌, ℕ, Bool, false, not, is_none, nat_le, if◌then◌else◌, List, [], ◌∷◌, length, codes, bytes_eq, Option, Some, None, option_and_then, option_map, Result, Ok, Err}
use Rattle.std.specs.Option.{option_map_or}
use Rattle.serde_json.specs.Data.{Data}
use Rattle.serde_json.specs.Find.{as_object, get}
use Rattle.serde_json.specs.Written.{compact_text, has_float}
use Rattle.svid_token.specs.Json.{json_of, text_at}
use Rattle.svid_keys.specs.Key.{KeyData, is_for_svids, kept_key, kty_in, most_key_bytes}
use Rattle.svid_documents.specs.declared.entry_fault.EntryFault.{EntryFault}
use Rattle.svid_documents.specs.declared.entry_fault.EntryFault.TheVariants.{NotObject, NoUse, X509, Use, Kid, Kty, Number, TooLong, OutOfMemory}

-- a reason, and whether it holds
abbrev pub Row : Type 0
Row = EntryFault × Bool

-- the reason of the first row that holds
abbrev pub first_row : List Row → Option EntryFault
first_row [] = None
first_row (row ∷ rows) = if row.1 then Some row.0 else first_row rows

-- an entry is for X.509-SVIDs (SPIFFE Trust Domain and Bundle, section 4.2.2)
abbrev pub is_for_x509 : Data → Bool
is_for_x509 entry = option_map_or (λ use_. bytes_eq use_ (codes "x509-svid")) (text_at (codes "use") entry) false

-- why an entry is no key: it is no object (RFC 7517, section 4); it does not say what it is for (section 4.2), or is for something else; it
-- has no name (section 4.5), or no family (section 4.1); a number in it is not whole, or its compact text is too long
abbrev pub entry_rows : Data → List Row
entry_rows entry =
    (NotObject, is_none (as_object entry))
    ∷ (NoUse, is_none (get (codes "use") entry))
    ∷ (X509, is_for_x509 entry)
    ∷ (Use, not (is_for_svids entry))
    ∷ (Kid, is_none (text_at (codes "kid") entry))
    ∷ (Kty, is_none (kty_in entry))
    ∷ (Number, has_float entry)
    ∷ (TooLong, not (nat_le (length (compact_text entry)) most_key_bytes))
    ∷ []

-- a text, unless there is a reason
abbrev pub unless : Option EntryFault → List ℕ → Result (List ℕ) EntryFault
unless None text = Ok text
unless (Some fault) text = Err fault

-- the answer that is due to an entry: its compact text, or the first reason why it is no key
abbrev pub entry_due : Data → Result (List ℕ) EntryFault
entry_due entry = unless (first_row (entry_rows entry)) (compact_text entry)

-- the answer that is due to the text of an entry
abbrev pub key_due : List ℕ → Result (List ℕ) EntryFault
key_due text = option_map_or entry_due (json_of text) (Err NotObject)

-- the text of the key that `svid_keys` keeps of the text of an entry, in the bundle of a trust domain, if it keeps one
abbrev pub kept_text : List ℕ → List ℕ → Option (List ℕ)
kept_text domain text = option_map (λ (key : KeyData). key.text) (option_and_then (kept_key domain) (json_of text))

-- a reason is the one that is due, or memory ran out
abbrev pub IsReason : Result (List ℕ) EntryFault → EntryFault → Type 0
IsReason due OutOfMemory = Unit {0}
IsReason due fault = due ≡ Err fault
