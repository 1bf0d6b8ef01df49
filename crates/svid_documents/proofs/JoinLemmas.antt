-- What documents add to the bundles of others.
use Rattle.std.proofs.Common.{drop, get_or, ◌≡◌, ◌≤◌, ◌<◌, ◌^◌, ◌+◌, ◌&&◌, length, String, string_bytes, ℕ, not, nat_le, is_none, is_some, if◌then◌else◌, Bool, true, false, List, [], ◌∷◌, map, IfOk, Option, Some, None, Result, Ok, Err, ok_or, refl, sym, ap, subst, ◌∙◌, arith}
use Rattle.std.proofs.lemmas.List.{drop_all, drop_more}
use Rattle.std.specs.declared.alloc.Global.{Global}
use Rattle.std.specs.Str.{is_utf8}
use Rattle.std.proofs.lemmas.Bool.{and_parts, leb-true}
use Rattle.serde_json.specs.Data.{Data, Members, no_members, member, object, put, depth, members_depth}
use Rattle.serde_json.specs.Find.{as_object, get_member}
use Rattle.serde_json.specs.Read.{read}
use Rattle.serde_json.specs.View.{members_view, view}
use Rattle.serde_json.specs.declared.value.Value.{Value}
use Rattle.svid_token.specs.Json.{json_of}
use Rattle.svid_id.specs.Domain.{is_domain}
use Rattle.svid_keys.specs.Bundles.{entries_in}
use Rattle.svid_documents.specs.Document.{DocumentData, bundle, bundles, bundles_of, data_of, keys, of_many, of_one, read_as}
use Rattle.svid_documents.specs.Join.{IsFault, IsRefusal, added, and_then, joined, joined_to, with_bundles}
use Rattle.svid_documents.specs.Uses.{mended}
use Rattle.svid_documents.specs.declared.document.Document.{Document}
use Rattle.svid_documents.specs.declared.document_fault.DocumentFault.{DocumentFault}
use Rattle.svid_documents.specs.declared.document_fault.DocumentFault.TheVariants.{Domain, Keys, NotObject, OutOfMemory, Twice, Unnamed}
use Rattle.svid_documents.specs.declared.join_fault.JoinFault.{JoinFault}
use Rattle.svid_documents.proofs.DepthLemmas.{depth-json_of, members_depth-put}

-- bundles that an object may hold, which is read then
abbrev pub AreNested : Members → Type 0
AreNested ms = members_depth ms ≤ 126

unless : {T E : Type 0} (bad : Bool) (fault : E) (r : Result T E) (P : T → Type 0) → IfOk r P → IfOk (if bad then Err fault else r) P
unless true fault r P holds = tt
unless false fault r P holds = holds

when : {T E : Type 0} (good : Bool) (fault : E) (value : T) (P : T → Type 0) → (good ≡ true → P value) → IfOk (if good then Ok value else Err fault) P
when true fault value P holds = holds refl
when false fault value P holds = tt

added-nested : (at : ℕ) (all ms : Members) → AreNested all → AreNested ms → IfOk (added at all ms) AreNested
added-nested at all no_members a m = a
added-nested at all (member name set ms) a m =
    unless (not (is_domain name)) _ _ AreNested
    (unless (is_none (entries_in set)) _ _ AreNested
    (unless (is_some (get_member name all)) _ _ AreNested
    (added-nested (at + 1) (put name set all) ms (members_depth-put name set all 126 (omega arith) a) (omega arith))))

of_one-nested : (domain : List ℕ) (d : Data) → IfOk (of_one domain d) AreNested
of_one-nested domain d = when (is_some (as_object d) && nat_le (depth d) 126) NotObject _ AreNested
    (λ good. omega (arith, leb-true (depth d) 126 (and_parts (is_some (as_object d)) (nat_le (depth d) 126) good).1))

of_object : (d : Data) → depth d ≤ 127 → IfOk (ok_or (as_object d) NotObject) AreNested
of_object (object ms) within = omega arith
of_object _ within = tt

of_many-nested : (d : Data) → depth d ≤ 127 → IfOk (of_many d) AreNested
of_many-nested d within = unless (is_some (entries_in d)) Unnamed _ AreNested (of_object d within)

read-nested : (reads : Data → Result Members DocumentFault) (found : Option Data) → ((d : Data) → found ≡ Some d → IfOk (reads d) AreNested) → IfOk (read_as reads found) AreNested
read-nested reads None each = tt
read-nested reads (Some d) each = each d refl

bundles_of-nested : (one : DocumentData) → IfOk (bundles_of one) AreNested
bundles_of-nested (bundles text) = read-nested of_many (json_of text) (λ d is. of_many-nested d (depth-json_of text d is))
bundles_of-nested (bundle domain text) = read-nested (of_one domain) (json_of text) (λ d _. of_one-nested domain d)
bundles_of-nested (keys domain text) = read-nested (λ d. of_one domain (mended d)) (json_of text) (λ d _. of_one-nested domain (mended d))

with_bundles-nested : (all : Members) (found : Result Members DocumentFault) → AreNested all → IfOk found AreNested → IfOk (with_bundles all found) AreNested
with_bundles-nested all (Err fault) a m = tt
with_bundles-nested all (Ok ms) a m = added-nested 0 all ms a m

then-nested : (at : ℕ) (found : Result Members DocumentFault) (rest : Members → Result Members JoinFault)
    → IfOk found AreNested → ((ms : Members) → AreNested ms → IfOk (rest ms) AreNested) → IfOk (and_then at found rest) AreNested
then-nested at (Err fault) rest m each = tt
then-nested at (Ok ms) rest m each = each ms m

joined_to-nested : (at : ℕ) (all : Members) (documents : List DocumentData) → AreNested all → IfOk (joined_to at all documents) AreNested
joined_to-nested at all [] a = a
joined_to-nested at all (one ∷ more) a =
    then-nested at (with_bundles all (bundles_of one)) (λ ms. joined_to (at + 1) ms more) (with_bundles-nested all (bundles_of one) a (bundles_of-nested one))
    (λ ms within. joined_to-nested (at + 1) ms more within)

ok_nested : (found : Result Members JoinFault) (ms : Members) → found ≡ Ok ms → IfOk found AreNested → AreNested ms
ok_nested (Ok x) ms is holds = let same : x ≡ ms = cc in subst AreNested same holds
ok_nested (Err fault) ms is holds = absurd (cc)

by_utf8 : (good : Bool) (text : List ℕ) (d : Data) → good ≡ true → read text ≡ Some d → (if good then read text else None) ≡ Some d
by_utf8 true text d utf8 is = is
by_utf8 false text d utf8 is = cc

-- a text that reads as the joined bundles is theirs
pub reads_joined : (documents : List DocumentData) (ms : Members) (text : List ℕ) → joined documents ≡ Ok ms → is_utf8 text ≡ true
    → (depth (object ms) ≤ 127 → read text ≡ Some (object ms)) → json_of text ≡ Some (object ms)
unfolding json_of
reads_joined documents ms text is utf8 reads =
    let within : AreNested ms = ok_nested (joined documents) ms is (joined_to-nested 1 no_members documents (omega arith)) in
    by_utf8 (is_utf8 text) text (object ms) utf8 (reads (omega arith))

-- of the members of an object so many were added to bundles, and these are left
pub record IsAdding (from now : Members) (all left : List (String Global × Value)) (index : ℕ) : Type 0 where
  pub adds : added 0 from (members_view all) ≡ added index now (members_view left)
  pub counted : index + length left ≡ length all
  pub bound : length all < 2 ^ 63

-- nothing was added yet
pub adding_none : (from : Members) (all left : List (String Global × Value)) → left ≡ all → length all < 2 ^ 63 → IsAdding from from all left 0
adding_none from all left is within = rw is (record { adds = refl; counted = omega arith; bound = within })

-- the next member was added
pub adding_one : (from now new : Members) (all left rest : List (String Global × Value)) (name : String Global) (set : Value) (said : List ℕ) (index : ℕ)
    → IsAdding from now all left index → left ≡ (name, set) ∷ rest → said ≡ string_bytes name → new ≡ put (string_bytes name) (view set) now
    → ((ms : Members) → added index now (member said (view set) ms) ≡ added (index + 1) (put said (view set) now) ms) → IsAdding from new all rest (index + 1)
adding_one from now new all left rest name set said index is before named put_ next = record {
  adds = is.adds ∙ (ap (λ l. added index now (members_view l)) before ∙ (rw named at next (members_view rest)) ∙ ap (λ j. added (index + 1) j (members_view rest)) (sym put_));
  counted = omega (arith, is.counted, ap length before);
  bound = is.bound;
}

-- the fault of the next member is that of all
pub adding_fault : (from now : Members) (all left rest : List (String Global × Value)) (name : String Global) (set : Value) (said : List ℕ) (index : ℕ) (fault : DocumentFault)
    → IsAdding from now all left index → left ≡ (name, set) ∷ rest → said ≡ string_bytes name
    → ((ms : Members) → IsFault (added index now (member said (view set) ms)) fault) → IsFault (added 0 from (members_view all)) fault
adding_fault from now all left rest name set said index fault is before named refused =
    let here : IsFault (added index now (members_view left)) fault = rw (before, ← named) (refused (members_view rest)) in
    rw is.adds here

-- there is room to count the next member
pub adding_counts : (from now : Members) (all left rest : List (String Global × Value)) (name : String Global) (set : Value) (index : ℕ)
    → IsAdding from now all left index → left ≡ (name, set) ∷ rest → index + 1 < 2 ^ 64
adding_counts from now all left rest name set index is before = omega (arith, is.counted, is.bound, ap length before)

-- all members were added
pub adding_all : (from now : Members) (all left : List (String Global × Value)) (index : ℕ) → IsAdding from now all left index → left ≡ [] → added 0 from (members_view all) ≡ Ok now
adding_all from now all left index is none = is.adds ∙ ap (λ l. added index now (members_view l)) none

-- the refusal of the next document is that of all
refused_here : (at : ℕ) (one : Result Members DocumentFault) (rest : Members → Result Members JoinFault) (fault : DocumentFault) → IsFault one fault → IsRefusal (and_then at one rest) (record { document = at; fault = fault })
refused_here at one rest OutOfMemory is = tt
refused_here at one rest NotObject is = ap (λ found. and_then at found rest) is
refused_here at one rest Unnamed is = ap (λ found. and_then at found rest) is
refused_here at one rest (Domain index) is = ap (λ found. and_then at found rest) is
refused_here at one rest (Keys index) is = ap (λ found. and_then at found rest) is
refused_here at one rest (Twice index) is = ap (λ found. and_then at found rest) is

-- so many documents were joined, and these bundles are theirs
pub record IsJoining (documents : List Document) (now : Members) (count : ℕ) : Type 0 where
  pub joins : joined (map data_of documents) ≡ joined_to (count + 1) now (map data_of (drop count documents))

next_is : (documents : List Document) (count : ℕ) (d : Document) (now : Members) → count < length documents
    → joined_to (count + 1) now (map data_of (drop count documents))
    ≡ and_then (count + 1) (with_bundles now (bundles_of (data_of (get_or documents count d)))) (λ ms. joined_to (count + 1 + 1) ms (map data_of (drop (count + 1) documents)))
next_is documents count d now within = ap (λ left. joined_to (count + 1) now (map data_of left)) (drop_more documents count d within)

-- one more document was joined
pub joining_one : (documents : List Document) (now new : Members) (count : ℕ) (d : Document) → count < length documents → IsJoining documents now count
    → with_bundles now (bundles_of (data_of (get_or documents count d))) ≡ Ok new → IsJoining documents new (count + 1)
joining_one documents now new count d within is one = record {
  joins = is.joins ∙ (next_is documents count d now within ∙ ap (λ found. and_then (count + 1) found (λ ms. joined_to (count + 1 + 1) ms (map data_of (drop (count + 1) documents)))) one);
}

-- the next document is refused
pub joining_fault : (documents : List Document) (now : Members) (count : ℕ) (d : Document) (fault : DocumentFault) → count < length documents → IsJoining documents now count
    → IsFault (with_bundles now (bundles_of (data_of (get_or documents count d)))) fault → IsRefusal (joined (map data_of documents)) (record { document = count + 1; fault = fault })
joining_fault documents now count d fault within is why =
    rw (is.joins, next_is documents count d now within) (refused_here (count + 1) _ (λ ms. joined_to (count + 1 + 1) ms (map data_of (drop (count + 1) documents))) fault why)

-- all documents were joined
pub joining_all : (documents : List Document) (now : Members) (count : ℕ) → length documents ≤ count → IsJoining documents now count → joined (map data_of documents) ≡ Ok now
joining_all documents now count all is = is.joins ∙ ap (λ left. joined_to (count + 1) now (map data_of left)) (drop_all count documents all)
