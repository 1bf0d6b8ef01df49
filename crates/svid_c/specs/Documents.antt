-- Documents of trust bundles, as C gives them: for each a name and a text, one after the other, and how long these are.
use Rattle.std.specs.Prelude.{◌≡◌, ◌≢◌, ◌==◌, ◌+◌, ℕ, IsUtf8, if◌then◌else◌, not, List, [], ◌∷◌, length, take, drop, Some}
use Rattle.std.specs.List.{slice_get, sum_by}
use Rattle.svid_documents.specs.Document.{DocumentData, bundle, bundles, keys}
use Rattle.svid_documents.specs.Join.{IsJoined, IsRefusal, joined}
use Rattle.svid_documents.specs.declared.document_fault.DocumentFault.{DocumentFault}
use Rattle.svid_documents.specs.declared.document_fault.DocumentFault.TheVariants as document
use Rattle.svid_documents.specs.declared.join_fault.JoinFault.{JoinFault}
use Rattle.svid_c.specs.Status.{told_length}
use Rattle.svid_c.specs.Written.{IsPut}
use Rattle.svid_c.specs.declared.bundles_join.SvidDocument.{SvidDocument}
use Rattle.svid_c.specs.declared.told.SvidTold.{SvidTold}

-- how many bytes a document has
abbrev pub length_of : SvidDocument → ℕ
length_of d = d.name_len + d.text_len

-- the bytes of the documents behind the first
abbrev pub behind : SvidDocument → List ℕ → List ℕ
behind d bytes = drop d.text_len (drop d.name_len bytes)

-- a document: an object of trust domains where it has no name; else the keys for JWT-SVIDs of the trust domain that it names, or its bundle
abbrev pub document_of : SvidDocument → List ℕ → List ℕ → DocumentData
document_of d name text = if d.name_len == 0 then bundles text else if not (d.keys == 0) then keys name text else bundle name text

-- the documents that bytes are
abbrev pub documents_in : List ℕ → List SvidDocument → List DocumentData
documents_in bytes [] = []
documents_in bytes (d ∷ ds) = document_of d (take d.name_len bytes) (take d.text_len (drop d.name_len bytes)) ∷ documents_in (behind d bytes) ds

-- their names; one has the empty name where it has none
abbrev pub names_in : List ℕ → List SvidDocument → List (List ℕ)
names_in bytes [] = []
names_in bytes (d ∷ ds) = take d.name_len bytes ∷ names_in (behind d bytes) ds

-- why documents can't be joined
abbrev pub document_number : DocumentFault → ℕ
document_number document.NotObject = 31
document_number document.Unnamed = 37
document_number (document.Domain index) = 32
document_number (document.Keys index) = 33
document_number (document.Twice index) = 38
document_number document.OutOfMemory = 2

-- the index of the faulty name in its document
abbrev pub document_index : DocumentFault → ℕ
document_index (document.Domain index) = index
document_index (document.Keys index) = index
document_index (document.Twice index) = index
document_index _ = 0

-- the answer for such a fault: the number of the document, and the index in it
abbrev pub told_join : JoinFault → SvidTold
told_join given = record { len = 0; input = given.document; message = 0; offset = document_index given.fault; more = 0 }

-- the fault of a document with this number whose name is not UTF-8, and so no trust domain name
abbrev pub no_name : ℕ → JoinFault
no_name number = record { document = number; fault = document.Domain 0 }

-- why documents are not joined: the name of one is not UTF-8, and it is the first such; else as they are refused
pub data IsNotJoined (bytes : List ℕ) (documents : List SvidDocument) (given : JoinFault) : Type 0 where
  unreadable : (index : ℕ) (name : List ℕ) → slice_get (names_in bytes documents) index ≡ Some name → ¬ IsUtf8 name → given ≡ no_name (index + 1) → IsNotJoined bytes documents given
  unjoined : IsRefusal (joined (documents_in bytes documents)) given → IsNotJoined bytes documents given

-- What joining documents does: their lengths do not add up to that of the bytes; or the text of their bundles is put, or has no room; or they
-- are not joined.
pub data JoinsBundles (bytes : List ℕ) (documents : List SvidDocument) (status : ℕ) (told : SvidTold) (old_out new_out : List ℕ) : Type 0 where
  unfit : sum_by length_of documents ≢ length bytes → status ≡ 39 → told ≡ told_length 0 → new_out ≡ old_out → JoinsBundles bytes documents status told old_out new_out
  bundles_joined : (text : List ℕ) → sum_by length_of documents ≡ length bytes → IsJoined (documents_in bytes documents) text → IsPut text status old_out new_out
      → told ≡ told_length (length text) → JoinsBundles bytes documents status told old_out new_out
  bundles_unjoined : (given : JoinFault) → sum_by length_of documents ≡ length bytes → IsNotJoined bytes documents given → status ≡ document_number given.fault
      → told ≡ told_join given → new_out ≡ old_out → JoinsBundles bytes documents status told old_out new_out
