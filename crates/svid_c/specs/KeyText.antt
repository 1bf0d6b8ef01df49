-- What the call on an entry of a trust bundle does.
use Rattle.std.specs.Prelude.{◌≡◌, ℕ, List, length, Ok}
use Rattle.svid_documents.specs.Entry.{IsReason, key_due}
use Rattle.svid_documents.specs.declared.entry_fault.EntryFault.{EntryFault}
use Rattle.svid_documents.specs.declared.entry_fault.EntryFault.TheVariants as entry
use Rattle.svid_c.specs.Status.{told_length}
use Rattle.svid_c.specs.Written.{IsPut}
use Rattle.svid_c.specs.declared.told.SvidTold.{SvidTold}

-- why an entry is no key for JWT-SVIDs
abbrev pub entry_number : EntryFault → ℕ
entry_number entry.OutOfMemory = 2
entry_number entry.NotObject = 61
entry_number entry.NoUse = 62
entry_number entry.X509 = 63
entry_number entry.Use = 64
entry_number entry.Kid = 65
entry_number entry.Kty = 66
entry_number entry.Number = 67
entry_number entry.TooLong = 68

-- the text of the key that an entry is, is put, or has no room; or the entry is no key
pub data PutsText (text : List ℕ) (status : ℕ) (told : SvidTold) (old new : List ℕ) : Type 0 where
  text_put : (key : List ℕ) → key_due text ≡ Ok key → IsPut key status old new → told ≡ told_length (length key) → PutsText text status told old new
  no_key : (fault : EntryFault) → IsReason (key_due text) fault → status ≡ entry_number fault → told ≡ told_length 0 → new ≡ old
      → PutsText text status told old new
