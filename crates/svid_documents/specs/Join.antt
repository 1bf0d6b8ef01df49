-- The bundles of several documents, joined.
use Rattle.std.specs.Prelude.{◌≡◌, ℕ, ◌+◌, not, is_none, is_some, if◌then◌else◌, List, [], ◌∷◌, Some, Result, Ok, Err}
use Rattle.serde_json.specs.Data.{Members, no_members, member, object, put}
use Rattle.serde_json.specs.Find.{get_member}
use Rattle.svid_token.specs.Json.{json_of}
use Rattle.svid_id.specs.Domain.{is_domain}
use Rattle.svid_keys.specs.Bundles.{entries_in}
use Rattle.svid_documents.specs.Document.{DocumentData, bundles_of}
use Rattle.svid_documents.specs.declared.document_fault.DocumentFault.{DocumentFault}
use Rattle.svid_documents.specs.declared.document_fault.DocumentFault.TheVariants.{Domain, Keys, Twice, OutOfMemory}
use Rattle.svid_documents.specs.declared.join_fault.JoinFault.{JoinFault}

-- bundles and those that a document adds to them, the first of these at this index; or the first fault of these
abbrev pub added : ℕ → Members → Members → Result Members DocumentFault
added at joined no_members = Ok joined
added at joined (member name set ms) =
    if not (is_domain name) then Err (Domain at)
    else if is_none (entries_in set) then Err (Keys at)
    else if is_some (get_member name joined) then Err (Twice at)
    else added (at + 1) (put name set joined) ms

-- bundles and those of a document, unless it has a fault
abbrev pub with_bundles : Members → Result Members DocumentFault → Result Members DocumentFault
with_bundles joined (Err fault) = Err fault
with_bundles joined (Ok ms) = added 0 joined ms

-- the same, and then what the documents behind it add; the fault is that of the document with this number
abbrev pub and_then : ℕ → Result Members DocumentFault → (Members → Result Members JoinFault) → Result Members JoinFault
and_then at (Err fault) rest = Err (record { document = at; fault = fault })
and_then at (Ok ms) rest = rest ms

-- bundles and those of documents, numbered from this number on; or the first fault
abbrev pub joined_to : ℕ → Members → List DocumentData → Result Members JoinFault
joined_to at joined [] = Ok joined
joined_to at joined (one ∷ more) = and_then at (with_bundles joined (bundles_of one)) (λ ms. joined_to (at + 1) ms more)

-- the bundles of documents, by the names of their trust domains in rising order; or the fault of the first that has one
abbrev pub joined : List DocumentData → Result Members JoinFault
joined documents = joined_to 1 no_members documents

-- a fault of a document is the one that was found, if memory did not run out
abbrev pub IsFault : Result Members DocumentFault → DocumentFault → Type 0
IsFault found OutOfMemory = Unit {0}
IsFault found fault = found ≡ Err fault

abbrev pub IsRefusalFor : Result Members JoinFault → JoinFault → DocumentFault → Type 0
IsRefusalFor found refused OutOfMemory = Unit {0}
IsRefusalFor found refused fault = found ≡ Err refused

-- a refusal is what was found, if memory did not run out
abbrev pub IsRefusal : Result Members JoinFault → JoinFault → Type 0
IsRefusal found refused = IsRefusalFor found refused refused.fault

-- a text is the object of the joined bundles of documents
pub record IsJoined (documents : List DocumentData) (text : List ℕ) : Type 0 where
  pub bundles : Members
  pub joins : joined documents ≡ Ok bundles
  pub read : json_of text ≡ Some (object bundles)
