-- Documents that have trust bundles, and the bundles that each of them has.
use Rattle.std.specs.Prelude.{ℕ, ◌&&◌, Bool, List, drop, take, codes, bytes_eq, if◌then◌else◌, nat_le, is_some, ok_or, Option, Some, None, option_and_then, Result, Ok, Err}
use Rattle.serde_json.specs.Data.{Data, Members, no_members, member, depth}
use Rattle.serde_json.specs.Find.{as_object}
use Rattle.svid_token.specs.Json.{json_of}
use Rattle.svid_keys.specs.Bundles.{entries_in}
use Rattle.svid_documents.specs.Uses.{mended}
use Rattle.svid_documents.specs.declared.document.Document.{Document}
use Rattle.svid_documents.specs.declared.document.Document.TheVariants as document
use Rattle.svid_documents.specs.declared.document_fault.DocumentFault.{DocumentFault}
use Rattle.svid_documents.specs.declared.document_fault.DocumentFault.TheVariants.{NotObject, Unnamed}

-- a document: an object of trust domains; the bundle of the one that is named; or the keys for JWT-SVIDs of that
pub data DocumentData : Type 0 where
  bundles : List ℕ → DocumentData
  bundle : List ℕ → List ℕ → DocumentData
  keys : List ℕ → List ℕ → DocumentData

-- what contracts see of a document
abbrev pub data_of : Document → DocumentData
data_of (document.Bundles text) = bundles text.now
data_of (document.Bundle domain text) = bundle domain.now text.now
data_of (document.Keys domain text) = keys domain.now text.now

-- the name of a trust domain, which its SPIFFE ID has behind the scheme (SPIFFE-ID, section 2)
abbrev pub name_in : List ℕ → List ℕ
name_in domain = if bytes_eq (take 9 domain) (codes "spiffe://") then drop 9 domain else domain

-- an object is one of trust domains, unless it is the bundle of one, which has no name then
abbrev pub of_many : Data → Result Members DocumentFault
of_many d = if is_some (entries_in d) then Err Unnamed else ok_or (as_object d) NotObject

-- a text is the bundle of one trust domain, which has no name by itself
abbrev pub is_unnamed : List ℕ → Bool
is_unnamed text = is_some (option_and_then entries_in (json_of text))

-- the bundle of one trust domain under its name, if it is an object that another may hold: one nests 127 deep at the most
abbrev pub of_one : List ℕ → Data → Result Members DocumentFault
of_one domain d = if is_some (as_object d) && nat_le (depth d) 126 then Ok (member (name_in domain) d no_members) else Err NotObject

-- what JSON is read as, if there is some
abbrev pub read_as : (Data → Result Members DocumentFault) → Option Data → Result Members DocumentFault
read_as reads None = Err NotObject
read_as reads (Some d) = reads d

-- the bundles of a document by the names of their trust domains, or why it has none
abbrev pub bundles_of : DocumentData → Result Members DocumentFault
bundles_of (bundles text) = read_as of_many (json_of text)
bundles_of (bundle domain text) = read_as (of_one domain) (json_of text)
bundles_of (keys domain text) = read_as (λ d. of_one domain (mended d)) (json_of text)
