-- What joined bundles are, beside those of each document.
use Rattle.std.proofs.Common.{◌≡◌, ◌+◌, ℕ, not, is_none, is_some, if◌then◌else◌, Bool, true, false, List, [], ◌∷◌, ◌++◌, IfOk, IsSome, Option, Some, None, option_map, unwrap_or, bytes_eq, Result, Ok, Err, Ordering, Less, Equal, Greater, is_eq, refl, sym, ap, subst, ◌∙◌}
use Rattle.std.specs.Ordering.{match_ordering, nat_cmp}
use Rattle.std.specs.Cmp.Lexicographic.{slice_cmp}
use Rattle.std.proofs.lemmas.Bool.{false≢true, true≢false}
use Rattle.std.proofs.lemmas.Map.Text.{is_eq-slice_cmp}
use Rattle.std.proofs.lemmas.Slice.Eq.{bytes_eq-Decides}
use Rattle.serde_json.specs.Data.{Data, Members, no_members, member, put}
use Rattle.serde_json.specs.Find.{get_member}
use Rattle.serde_json.proofs.Views.{get_member-put, get_member-put_other}
use Rattle.svid_id.specs.Domain.{domain_fault, is_domain}
use Rattle.svid_id.specs.declared.id_fault.IdFault.{IdFault}
use Rattle.svid_id.proofs.DomainLemmas.{IsDomain-from_fault}
use Rattle.svid_keys.specs.Bundles.{AreBundles, Bundle, IsBundle, bundle_of, bundles_in, entries_in, members_in}
use Rattle.svid_keys.specs.Bundles as keys
use Rattle.svid_keys.specs.Candidates.{bundle_at}
use Rattle.svid_keys.proofs.BundlesLemmas.{bundles_in-members}
use Rattle.svid_documents.specs.Document.{DocumentData, bundles_of}
use Rattle.svid_documents.specs.Join.{IsJoined, added, and_then, joined, joined_to, with_bundles}
use Rattle.svid_documents.specs.declared.document_fault.DocumentFault.{DocumentFault}
use Rattle.svid_documents.specs.declared.join_fault.JoinFault.{JoinFault}

-- what holds unless there is a fault
unless : {T E : Type 0} (bad : Bool) (fault : E) (r : Result T E) (P : T → Type 0) → (bad ≡ false → IfOk r P) → IfOk (if bad then Err fault else r) P
unless true fault r P holds = tt
unless false fault r P holds = holds refl

-- what holds of bundles and those that are added to them, behind one more that has no fault
one_added : (at : ℕ) (all : Members) (name : List ℕ) (set : Data) (ms : Members) (P : Members → Type 0)
    → (not (is_domain name) ≡ false → is_none (entries_in set) ≡ false → is_some (get_member name all) ≡ false → IfOk (added (at + 1) (put name set all) ms) P)
    → IfOk (added at all (member name set ms)) P
one_added at all name set ms P holds =
    unless (not (is_domain name)) _ _ P (λ named. unless (is_none (entries_in set)) _ _ P (λ kept. unless (is_some (get_member name all)) _ _ P (λ new. holds named kept new)))

-- a name of an object is its first one, or one behind it
data Found (q name : List ℕ) (set : Data) (ms : Members) : Type 0 where
  here : q ≡ name → get_member q (member name set ms) ≡ Some set → Found q name set ms
  behind : (q ≡ name → ⊥) → get_member q (member name set ms) ≡ get_member q ms → Found q name set ms

differ : (q name : List ℕ) → bytes_eq q name ≡ false → q ≡ name → ⊥
differ q name unlike same = let alike : bytes_eq q name ≡ true = (bytes_eq-Decides q name).1 same in false≢true (sym unlike ∙ alike)

found_at : (o : Ordering) (q name : List ℕ) (set : Data) (ms : Members) → slice_cmp nat_cmp q name ≡ o → is_eq o ≡ bytes_eq q name → Found q name set ms
found_at Less q name set ms is eq = behind (differ q name (sym eq)) (rw is refl)
found_at Equal q name set ms is eq = here ((bytes_eq-Decides q name).0 (sym eq)) (rw is refl)
found_at Greater q name set ms is eq = behind (differ q name (sym eq)) (rw is refl)

found : (q name : List ℕ) (set : Data) (ms : Members) → Found q name set ms
found q name set ms = found_at (slice_cmp nat_cmp q name) q name set ms refl (is_eq-slice_cmp q name)

some_here : (o : Option Data) (d : Data) → o ≡ Some d → is_some o ≡ false → ⊥
some_here None d is none = cc
some_here (Some x) d is none = true≢false none

-- a name that is there is no new one
known : (all : Members) (q name : List ℕ) (d : Data) → get_member q all ≡ Some d → is_some (get_member name all) ≡ false → q ≡ name → ⊥
known all q name d has new same = some_here (get_member name all) d (subst (λ n. get_member n all ≡ Some d) same has) new

-- a bundle stays
added_keeps : (at : ℕ) (all ms : Members) (q : List ℕ) (d : Data) → get_member q all ≡ Some d → IfOk (added at all ms) (λ joined. get_member q joined ≡ Some d)
added_keeps at all no_members q d has = has
added_keeps at all (member name set ms) q d has =
    one_added at all name set ms (λ joined. get_member q joined ≡ Some d)
    (λ named kept new. added_keeps (at + 1) (put name set all) ms q d (get_member-put_other q name set all (known all q name d has new) ∙ has))

has_one : (at : ℕ) (all : Members) (name : List ℕ) (set : Data) (ms : Members) (q : List ℕ) (d : Data) → Found q name set ms
    → (get_member q ms ≡ Some d → IfOk (added (at + 1) (put name set all) ms) (λ joined. get_member q joined ≡ Some d))
    → get_member q (member name set ms) ≡ Some d → IfOk (added (at + 1) (put name set all) ms) (λ joined. get_member q joined ≡ Some d)
has_one at all name set ms q d (here same is) rest has =
    added_keeps (at + 1) (put name set all) ms q d (ap (λ n. get_member n (put name set all)) same ∙ get_member-put name set all ∙ sym is ∙ has)
has_one at all name set ms q d (behind other is) rest has = rest (sym is ∙ has)

-- and a bundle that is added is there
added_has : (at : ℕ) (all ms : Members) (q : List ℕ) (d : Data) → get_member q ms ≡ Some d → IfOk (added at all ms) (λ joined. get_member q joined ≡ Some d)
added_has at all no_members q d has = absurd (cc)
added_has at all (member name set ms) q d has =
    one_added at all name set ms (λ joined. get_member q joined ≡ Some d)
    (λ named kept new. has_one at all name set ms q d (found q name set ms) (added_has (at + 1) (put name set all) ms q d) has)

anything : {E : Type 0} (r : Result Members E) → IfOk r (λ ms. Unit {0})
anything (Ok ms) = tt
anything (Err fault) = tt

-- what holds of the bundles that a document adds
with_holds : (all : Members) (one : Result Members DocumentFault) (P : Members → Type 0) → ((ms : Members) → one ≡ Ok ms → IfOk (added 0 all ms) P) → IfOk (with_bundles all one) P
with_holds all (Err fault) P holds = tt
with_holds all (Ok ms) P holds = holds ms refl

then_holds : (at : ℕ) (one : Result Members DocumentFault) (rest : Members → Result Members JoinFault) (P Q : Members → Type 0)
    → IfOk one P → ((ms : Members) → P ms → IfOk (rest ms) Q) → IfOk (and_then at one rest) Q
then_holds at (Err fault) rest P Q holds each = tt
then_holds at (Ok ms) rest P Q holds each = each ms holds

joined_keeps : (at : ℕ) (all : Members) (documents : List DocumentData) (q : List ℕ) (d : Data) → get_member q all ≡ Some d
    → IfOk (joined_to at all documents) (λ joined. get_member q joined ≡ Some d)
joined_keeps at all [] q d has = has
joined_keeps at all (one ∷ more) q d has =
    let P : Members → Type 0 = λ ms. get_member q ms ≡ Some d in
    then_holds at (with_bundles all (bundles_of one)) (λ ms. joined_to (at + 1) ms more) P P
    (with_holds all (bundles_of one) P (λ ms _. added_keeps 0 all ms q d has))
    (λ ms kept. joined_keeps (at + 1) ms more q d kept)

same_ok : (one : Result Members DocumentFault) (a b : Members) → one ≡ Ok a → one ≡ Ok b → a ≡ b
same_ok (Ok x) a b is other = cc
same_ok (Err fault) a b is other = cc

joined_has : (at : ℕ) (all : Members) (before : List DocumentData) (one : DocumentData) (after : List DocumentData) (own : Members) (q : List ℕ) (d : Data)
    → bundles_of one ≡ Ok own → get_member q own ≡ Some d → IfOk (joined_to at all (before ++ one ∷ after)) (λ joined. get_member q joined ≡ Some d)
joined_has at all [] one after own q d is has =
    let P : Members → Type 0 = λ ms. get_member q ms ≡ Some d in
    then_holds at (with_bundles all (bundles_of one)) (λ ms. joined_to (at + 1) ms after) P P
    (with_holds all (bundles_of one) P (λ ms found_. added_has 0 all ms q d (ap (get_member q) (same_ok (bundles_of one) ms own found_ is) ∙ has)))
    (λ ms kept. joined_keeps (at + 1) ms after q d kept)
joined_has at all (first ∷ before) one after own q d is has =
    let Any : Members → Type 0 = λ ms. Unit {0} in
    then_holds at (with_bundles all (bundles_of first)) (λ ms. joined_to (at + 1) ms (before ++ one ∷ after)) Any (λ ms. get_member q ms ≡ Some d)
    (with_holds all (bundles_of first) Any (λ ms _. anything (added 0 all ms)))
    (λ ms _. joined_has (at + 1) ms before one after own q d is has)

of_ok : {E : Type 0} (r : Result Members E) (P : Members → Type 0) (ms : Members) → r ≡ Ok ms → IfOk r P → P ms
of_ok (Ok x) P ms is holds = let same : x ≡ ms = cc in subst P same holds
of_ok (Err fault) P ms is holds = absurd (cc)

-- a bundle of a document is among the joined ones
pub each_kept : (before : List DocumentData) (one : DocumentData) (after : List DocumentData) (all own : Members) → joined (before ++ one ∷ after) ≡ Ok all → bundles_of one ≡ Ok own
    → (name : List ℕ) (set : Data) → get_member name own ≡ Some set → get_member name all ≡ Some set
each_kept before one after all own is own_is name set has =
    of_ok (joined (before ++ one ∷ after)) (λ ms. get_member name ms ≡ Some set) all is (joined_has 1 no_members before one after own name set own_is has)

no_id_fault : (fault : Option IdFault) → not (is_none fault) ≡ false → fault ≡ None
no_id_fault None is = refl
no_id_fault (Some fault) is = absurd (true≢false is)

some_entries : {X : Type 0} (o : Option X) → is_none o ≡ false → IsSome o
some_entries None is = absurd (true≢false is)
some_entries (Some x) is = refl

are_ordered : (o : Ordering) (a b c : Members) → AreBundles a → AreBundles b → AreBundles c → AreBundles (match_ordering o a b c)
are_ordered Less a b c p q r = p
are_ordered Equal a b c p q r = q
are_ordered Greater a b c p q r = r

put_are : (k : List ℕ) (d : Data) (ms : Members) → IsBundle k d → AreBundles ms → AreBundles (put k d ms)
put_are k d no_members is are = (is, tt)
put_are k d (member l e ms) is are =
    are_ordered (slice_cmp nat_cmp k l) (member k d (member l e ms)) (member l d ms) (member l e (put k d ms))
    (is, are) (record { domain = are.0.domain; entries = is.entries }, are.1) (are.0, put_are k d ms is are.1)

added_are : (at : ℕ) (all ms : Members) → AreBundles all → IfOk (added at all ms) AreBundles
added_are at all no_members are = are
added_are at all (member name set ms) are =
    one_added at all name set ms AreBundles
    (λ named kept new.
    let is : IsBundle name set = record { domain = IsDomain-from_fault 0 name (no_id_fault (domain_fault 0 name) named); entries = some_entries (entries_in set) kept } in
    added_are (at + 1) (put name set all) ms (put_are name set all is are))

joined_are : (at : ℕ) (all : Members) (documents : List DocumentData) → AreBundles all → IfOk (joined_to at all documents) AreBundles
joined_are at all [] are = are
joined_are at all (one ∷ more) are =
    then_holds at (with_bundles all (bundles_of one)) (λ ms. joined_to (at + 1) ms more) AreBundles AreBundles
    (with_holds all (bundles_of one) AreBundles (λ ms _. added_are 0 all ms are))
    (λ ms are_more. joined_are (at + 1) ms more are_more)

-- the text of joined bundles is read as these bundles
pub joined_read : (documents : List DocumentData) (text : List ℕ) (j : IsJoined documents text) → bundles_in text ≡ Some (keys.bundles_of j.bundles)
joined_read documents text j =
    let found_ : members_in text ≡ Some j.bundles = rw j.read refl in
    bundles_in-members text j.bundles found_ (of_ok (joined documents) AreBundles j.bundles j.joins (joined_are 1 no_members documents tt))

abbrev bundle_of_set : List ℕ → Data → Bundle
bundle_of_set q d = bundle_of q (unwrap_or (entries_in d) [])

if_found : (b : Bool) (first : Bundle) (rest : Option Bundle) → b ≡ true → (if b then Some first else rest) ≡ Some first
if_found true first rest is = refl
if_found false first rest is = absurd (false≢true is)

if_behind : (b : Bool) (first : Bundle) (rest : Option Bundle) → b ≡ false → (if b then Some first else rest) ≡ rest
if_behind true first rest is = absurd (true≢false is)
if_behind false first rest is = refl

not_same : (q name : List ℕ) (b : Bool) → bytes_eq q name ≡ b → (q ≡ name → ⊥) → b ≡ false
not_same q name true is other = absurd (other ((bytes_eq-Decides q name).0 is))
not_same q name false is other = refl

bundle_found : (q name : List ℕ) (set : Data) (ms : Members) → Found q name set ms
    → bundle_at q (keys.bundles_of ms) ≡ option_map (bundle_of_set q) (get_member q ms)
    → bundle_at q (keys.bundles_of (member name set ms)) ≡ option_map (bundle_of_set q) (get_member q (member name set ms))
bundle_found q name set ms (here same is) rest =
    if_found (bytes_eq q name) (bundle_of_set name set) _ ((bytes_eq-Decides q name).1 same) ∙ ap (λ n. Some (bundle_of_set n set)) (sym same) ∙ sym (ap (option_map (bundle_of_set q)) is)
bundle_found q name set ms (behind other is) rest =
    if_behind (bytes_eq q name) (bundle_of_set name set) _ (not_same q name (bytes_eq q name) refl other) ∙ rest ∙ sym (ap (option_map (bundle_of_set q)) is)

-- the bundle that is read for a trust domain is that of its name
bundle_at-get : (q : List ℕ) (ms : Members) → bundle_at q (keys.bundles_of ms) ≡ option_map (bundle_of_set q) (get_member q ms)
bundle_at-get q no_members = refl
bundle_at-get q (member name set ms) = bundle_found q name set ms (found q name set ms) (bundle_at-get q ms)

same_bundle : (q : List ℕ) (all own : Members) (found_ : Option Data) → get_member q own ≡ found_ → IsSome found_
    → ((set : Data) → get_member q own ≡ Some set → get_member q all ≡ Some set) → bundle_at q (keys.bundles_of all) ≡ bundle_at q (keys.bundles_of own)
same_bundle q all own None is some kept = absurd (false≢true some)
same_bundle q all own (Some set) is some kept =
    bundle_at-get q all ∙ ap (option_map (bundle_of_set q)) (kept set is ∙ sym is) ∙ sym (bundle_at-get q own)

-- for a trust domain of a document that bundle is read which is read of the document alone
pub read_as_alone : (before : List DocumentData) (one : DocumentData) (after : List DocumentData) (all own : Members) → joined (before ++ one ∷ after) ≡ Ok all → bundles_of one ≡ Ok own
    → (name : List ℕ) → IsSome (get_member name own) → bundle_at name (keys.bundles_of all) ≡ bundle_at name (keys.bundles_of own)
read_as_alone before one after all own is own_is name some =
    same_bundle name all own (get_member name own) refl some (λ set. each_kept before one after all own is own_is name set)
