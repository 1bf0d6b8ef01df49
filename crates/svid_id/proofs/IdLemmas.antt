-- Lemmas about specs/Id.antt.
use Rattle.std.proofs.Common.{◌≡◌, ℕ, ◌+◌, ◌<◌, ◌≢◌, cond, Bool, true, false, not, nat_eq, nat_lt, List, [], ◌∷◌, ◌++◌, length, get_or, take, drop, Option, Some, None, is_none, unwrap_or, refl, sym, ap, subst, ◌∙◌, if◌then◌else◌, eqb-true, length-drop, length-append, arith}
use Rattle.std.specs.List.{AllByRecursion, AllPass, position_or_len, prefix_len, slice_split, starts_with}
use Rattle.std.specs.Option.{option_or}
use Rattle.std.specs.Str.{IsAscii, IsCharBoundary, IsUtf8}
use Rattle.std.proofs.lemmas.Bool.{le-ltb, ltb-false, ltb-true}
use Rattle.std.proofs.lemmas.Bool.Decides.{nat_tests, Decides-eqb}
use Rattle.std.proofs.lemmas.List.{get_or_append_left, get_or-append-add, get_or-drop, drop-drop, take-append-drop, take_at, drop_at}
use Rattle.std.proofs.lemmas.List.Elements.{recursion_from_All}
use Rattle.std.proofs.lemmas.List.Sums.{AllPass-from_list_all, position_or_len_is, passes_at_first}
use Rattle.std.proofs.lemmas.Slice.Eq.{starts_is}
use Rattle.std.proofs.lemmas.Str.{IsAscii-append, IsCharBoundary-from_ascii, IsUtf8-from_ascii}
use Rattle.std.proofs.lemmas.Str.Ascii.{IsAscii-cons, IsAscii-from_all, IsAscii-nil}
use Rattle.svid_id.specs.Domain.{IsDomain, domain_fault, is_domain_byte}
use Rattle.svid_id.specs.Path.{IsPath, IsSegment, is_segment_byte, is_slash, path_fault, segment_fault, segments_fault, slashed}
use Rattle.svid_id.specs.Id.{IdParts, IsId, id_fault, id_parts, parts_of, scheme}
use Rattle.svid_id.specs.declared.id_fault.IdFault.{IdFault}
use Rattle.svid_id.specs.declared.id_fault.IdFault.TheVariants.{TooLong, Scheme, DomainEmpty, DomainByte, DomainLong, SegmentEmpty, SegmentDots, PathByte, OutOfMemory}
use Rattle.svid_id.proofs.DomainLemmas.{domain_byte_ascii, domain_fault-IsDomain, IsDomain-from_fault}
use Rattle.svid_id.proofs.PathLemmas.{option_or-None, path_fault-IsPath, IsPath-from_fault}
use Rattle.svid_id.proofs.PieceLemmas.{is_slash-class, length-piece}

-- a path is empty or begins with '/'
pub slashed_slash : (ss : List (List ℕ)) → 0 < length (slashed ss) → is_slash (get_or (slashed ss) 0 0) ≡ true
slashed_slash [] some = absurd (omega arith)
slashed_slash (s ∷ ss) some = refl

pub path_slash : (path : List ℕ) → IsPath path → 0 < length path → is_slash (get_or path 0 0) ≡ true
path_slash path (ss, all, spelled) some = rw spelled (slashed_slash ss (rw spelled at some))

-- the trust domain name ends where the path begins
pub position-domain : (domain path : List ℕ) → IsDomain domain → IsPath path
    → position_or_len is_slash (domain ++ path) ≡ length domain
position-domain domain path name is =
    let at_end : length domain + 0 ≡ length domain = omega arith in
    let IsCut : ℕ → Type 0 = λ n. is_slash (get_or (domain ++ path) n 0) ≡ true in
    position_or_len_is is_slash (domain ++ path) (length domain) 0 (omega (arith, length-append domain path))
    (λ k h. rw (get_or_append_left domain path 0 k h) (is_slash-class is_domain_byte refl _ (name.bytes k 0 h)))
    (λ h. subst IsCut at_end (rw (get_or-append-add domain path 0 0) (path_slash path is (omega (arith, length-append domain path)))))

-- the parts of an ID are found in its text
pub parts_of-IsId : (text : List ℕ) (id : IdParts) → IsId text id → parts_of text ≡ id
parts_of-IsId text id is =
    let cut = position-domain id.domain id.path is.domain is.path in
    let front = take_at id.domain id.path (length id.domain) refl in
    let back = drop_at id.domain id.path (length id.domain) refl in
    rw (is.spelled, cut, front, back) refl

-- the fault of a text that has these parts
abbrev fault_with : List ℕ → IdParts → Option IdFault
fault_with text parts =
    if nat_lt 2048 (length text) then Some TooLong
    else if not (starts_with nat_eq text scheme) then Some Scheme
    else option_or (domain_fault 9 parts.domain) (path_fault (9 + length parts.domain) parts.path)

-- an ID has no fault
pub id_fault-IsId : (text : List ℕ) (id : IdParts) → IsId text id → id_fault text ≡ None
id_fault-IsId text id is =
    let HasNone : IdParts → Type 0 = λ parts. fault_with text parts ≡ None in
    let short : nat_lt 2048 (length text) ≡ false = le-ltb 2048 (length text) is.not_long in
    let starts : starts_with nat_eq text scheme ≡ true = (starts_is Decides-eqb text scheme _ refl).1 (id.domain ++ id.path) is.spelled in
    let at_id : HasNone id =
    rw (short, starts, domain_fault-IsDomain 9 id.domain is.domain) (path_fault-IsPath (9 + length id.domain) id.path is.path) in
    subst HasNone (sym (parts_of-IsId text id is)) at_id

-- no fault of three means that none of them is there
pub none_of : (long starts : Bool) (rest : Option IdFault)
    → (if long then Some TooLong else if not starts then Some Scheme else rest) ≡ None
    → (long ≡ false) × (starts ≡ true) × (rest ≡ None)
none_of true starts rest none = absurd (cc)
none_of false false rest none = absurd (cc)
none_of false true rest none = (refl, refl, none)

-- what is cut off at a '/' begins with it
slash_at : (cut : ℕ) (rest : List ℕ) → 0 < length (drop cut rest)
    → (cut < length rest → is_slash (get_or rest cut 0) ≡ true) → get_or (drop cut rest) 0 0 ≡ 47
slash_at cut rest some met =
    let at_start : cut + 0 ≡ cut = omega arith in
    rw (get_or-drop cut rest 0 0, at_start) (eqb-true (get_or rest cut 0) 47 (met (omega (arith, length-drop cut rest))))

-- what has none is an ID
pub IsId-from_fault : (text : List ℕ) → id_fault text ≡ None → IsId text (parts_of text)
IsId-from_fault text none =
    let rest = drop 9 text in
    let cut = position_or_len is_slash rest in
    let three = none_of (nat_lt 2048 (length text)) (starts_with nat_eq text scheme) _ none in
    let start = 9 + length (take cut rest) in
    let parts = option_or-None (domain_fault 9 (take cut rest)) (path_fault start (drop cut rest)) three.2 in
    let spelled : text ≡ scheme ++ rest = (starts_is Decides-eqb text scheme _ refl).0 three.1 in
    record {
      spelled = spelled ∙ ap (λ s. scheme ++ s) (sym (take-append-drop cut rest));
      not_long = ltb-false 2048 (length text) three.0;
      domain = IsDomain-from_fault 9 (take cut rest) parts.0;
      path = IsPath-from_fault start (drop cut rest) (λ some. slash_at cut rest some (passes_at_first is_slash rest 0)) parts.1;
    }

-- what stands where there is no fault
some_if : (fault : Option IdFault) (x id : IdParts) → (if is_none fault then Some x else None) ≡ Some id
    → (fault ≡ None) × (x ≡ id)
some_if None x id read = (refl, cc)
some_if (Some fault) x id read = absurd (cc)

-- the parts of an ID are those that are read from it
pub id_parts-IsId : (text : List ℕ) (id : IdParts) → IsId text id → id_parts text ≡ Some id
id_parts-IsId text id is = rw (id_fault-IsId text id is) (ap Some (parts_of-IsId text id is))

-- and what is read are the parts of an ID
pub IsId-from_parts : (text : List ℕ) (id : IdParts) → id_parts text ≡ Some id → IsId text id
IsId-from_parts text id read =
    let HasParts : IdParts → Type 0 = λ parts. IsId text parts in
    let known = some_if (id_fault text) (parts_of text) id read in
    subst HasParts known.1 (IsId-from_fault text known.0)

some_unless : (first : Option IdFault) (fault : IdFault) → fault ≡ unwrap_or first OutOfMemory → fault ≢ OutOfMemory
    → first ≡ Some fault
some_unless None fault answered other = absurd (other answered)
some_unless (Some first) fault answered other = cc

-- a text that is refused for a fault other than out of memory has that fault
pub refused_fault : (text : List ℕ) (fault : IdFault) → fault ≡ unwrap_or (id_fault text) OutOfMemory
    → fault ≢ OutOfMemory → id_fault text ≡ Some fault
refused_fault text fault answered other = some_unless (id_fault text) fault answered other

-- so it has no parts
pub refused_parts : (text : List ℕ) (fault : IdFault) → fault ≡ unwrap_or (id_fault text) OutOfMemory
    → fault ≢ OutOfMemory → id_parts text ≡ None
refused_parts text fault answered other = rw (refused_fault text fault answered other) refl

-- out of memory is neither of two faults, so not the one that is chosen
either-memory : (b : Bool) (one other : Option IdFault) → one ≢ Some OutOfMemory → other ≢ Some OutOfMemory
    → cond b one other ≢ Some OutOfMemory
either-memory true one other is-not other-is-not = is-not
either-memory false one other is-not other-is-not = other-is-not

first-memory : (one other : Option IdFault) → one ≢ Some OutOfMemory → other ≢ Some OutOfMemory
    → option_or one other ≢ Some OutOfMemory
first-memory None other is-not other-is-not = other-is-not
first-memory (Some fault) other is-not other-is-not = is-not

pub domain_fault-memory : (at : ℕ) (name : List ℕ) → domain_fault at name ≢ Some OutOfMemory
domain_fault-memory at name =
    let good = prefix_len is_domain_byte name in
    either-memory _ (Some DomainEmpty) _ (λ e. cc)
    (either-memory _ (Some (DomainByte (at + good))) _ (λ e. cc) (either-memory _ (Some DomainLong) None (λ e. cc) (λ e. cc)))

segment_fault-memory : (at : ℕ) (s : List ℕ) → segment_fault at s ≢ Some OutOfMemory
segment_fault-memory at s =
    let good = prefix_len is_segment_byte s in
    either-memory _ (Some (SegmentEmpty at)) _ (λ e. cc)
    (either-memory _ (Some (SegmentDots at)) _ (λ e. cc) (either-memory _ (Some (PathByte (at + good))) None (λ e. cc) (λ e. cc)))

segments_fault-memory : (at : ℕ) (ss : List (List ℕ)) → segments_fault at ss ≢ Some OutOfMemory
segments_fault-memory at [] = λ e. cc
segments_fault-memory at (s ∷ ss) =
    first-memory (segment_fault at s) (segments_fault (at + length s + 1) ss)
    (segment_fault-memory at s)
    (segments_fault-memory (at + length s + 1) ss)

path_fault-memory : (at : ℕ) (path : List ℕ) → path_fault at path ≢ Some OutOfMemory
path_fault-memory at [] = λ e. cc
path_fault-memory at (slash ∷ rest) = segments_fault-memory (at + 1) (slice_split is_slash rest)

-- so it is the fault of no text
pub id_fault-memory : (text : List ℕ) → id_fault text ≢ Some OutOfMemory
id_fault-memory text =
    let parts = parts_of text in
    let start = 9 + length parts.domain in
    let rest =
    first-memory (domain_fault 9 parts.domain) (path_fault start parts.path)
    (domain_fault-memory 9 parts.domain) (path_fault-memory start parts.path) in
    either-memory _ (Some TooLong) _ (λ e. cc) (either-memory _ (Some Scheme) _ (λ e. cc) rest)

-- bytes of a class of ASCII are ASCII
pub IsAscii-class : (class : ℕ → Bool) → ((b : ℕ) → class b ≡ true → b < 128) → (s : List ℕ) → AllPass class s
    → IsAscii s
IsAscii-class class small s all = IsAscii-from_all s (λ k d h. small _ (all k d h))

-- so is the text of a row of segments
pub IsAscii-slashed : (ss : List (List ℕ)) → AllByRecursion IsSegment ss → IsAscii (slashed ss)
IsAscii-slashed [] all = IsAscii-nil
IsAscii-slashed (s ∷ ss) all =
    IsAscii-cons 47 (s ++ slashed ss) (omega arith)
    (IsAscii-append s (slashed ss) (IsAscii-class is_segment_byte (λ b is. grind (arith, nat_tests)) s all.0.bytes) (IsAscii-slashed ss all.1))

-- so is an ID
pub IsAscii-IsId : (text : List ℕ) (id : IdParts) → IsId text id → IsAscii text
IsAscii-IsId text id is =
    let name = IsAscii-class is_domain_byte domain_byte_ascii id.domain is.domain.bytes in
    let path : IsAscii id.path = rw is.path.2 (IsAscii-slashed is.path.0 (recursion_from_All IsSegment is.path.0 is.path.1)) in
    let start = IsAscii-class (λ b. nat_lt b 128) (λ b small. ltb-true b 128 small) scheme (AllPass-from_list_all (λ b. nat_lt b 128) scheme refl) in
    rw is.spelled (IsAscii-append scheme (id.domain ++ id.path) start (IsAscii-append id.domain id.path name path))

-- so it is UTF-8
pub IsUtf8-IsId : (text : List ℕ) (id : IdParts) → IsId text id → IsUtf8 text
IsUtf8-IsId text id is = IsUtf8-from_ascii text (IsAscii-IsId text id is)

-- it may be cut where its trust domain name ends
pub IsCharBoundary-domain_end : (text : List ℕ) (id : IdParts) (len : ℕ) → IsId text id → len ≡ length id.domain
    → IsCharBoundary text (9 + len)
IsCharBoundary-domain_end text id len is ends =
    IsCharBoundary-from_ascii text (9 + len) (IsAscii-IsId text id is)
    (omega (arith, ap length is.spelled, length-append id.domain id.path))

-- its path begins there
pub drop-domain_end : (text : List ℕ) (len : ℕ) → len ≡ length (parts_of text).domain
    → drop (9 + len) text ≡ (parts_of text).path
drop-domain_end text len ends =
    rw (ends, length-piece (drop 9 text)) (sym (drop-drop (position_or_len is_slash (drop 9 text)) 9 text))
