-- What a token says, one part after the other.
use Rattle.std.proofs.Common.{◌≡◌, ℕ, Bool, true, false, ◌||◌, List, ◌++◌, Option, None, Some, refl, sym, ap, ◌∙◌}
use Rattle.std.specs.Prelude.{IsSome, Ok, Err, codes, option_and_then}
use Rattle.serde_json.specs.Data.{Data}
use Rattle.svid_id.specs.Id.{IdParts}
use Rattle.svid_token.specs.Claims.{ClaimsSaid, audiences_at, claims_of, claims_rows, claims_said, subject_at}
use Rattle.svid_token.specs.Compact.{Parts, compact_of, compact_rows, parts_of, signing_input}
use Rattle.svid_token.specs.Header.{HeaderSaid, alg_at, header_of, header_rows, header_said}
use Rattle.svid_token.specs.Json.{object_of, time_at}
use Rattle.svid_token.specs.Object.{part_object}
use Rattle.svid_token.specs.Part.{part_bytes}
use Rattle.svid_token.specs.Payload.{payload_of, payload_rows}
use Rattle.svid_token.specs.Rows.{Refuses, first_row}
use Rattle.svid_token.specs.Signature.{signature_of, signature_rows}
use Rattle.svid_token.specs.declared.alg.Alg.{Alg}
use Rattle.svid_token.specs.declared.refusal.Refusal.{Refusal}
use Rattle.svid_check.specs.Said.{ReadTokensHaveTheirForm, UnrefusedIsSaid, parts_rows, parts_say, reading_of, rows_if_three, said_by, said_of, token_rows}
use Rattle.svid_check.proofs.RowsLemmas.{judged-Err, judged-None, judged-Ok, judged-Some, none_of_both, passed, passes, read_there, refused_through, stops, there}

-- of a token with three parts, these are judged
split_rows : (token : List ℕ) (p : Parts) → Ok (Some p) ≡ compact_of token → (first_row (token_rows token) ≡ first_row (parts_rows p)) × (said_of token ≡ parts_say p)
split_rows token p split =
    let j = judged-Ok (first_row (compact_rows token)) (parts_of token) (Some p) (sym split) in
    (passes (compact_rows token) (rows_if_three (parts_of token)) j.0 ∙ ap (λ q. first_row (rows_if_three q)) j.1, ap (λ q. option_and_then parts_say q) j.1)

-- a good header leaves it to the payload
header_rows-pass : (token : List ℕ) (p : Parts) (h : HeaderSaid) → Ok (Some p) ≡ compact_of token → header_of p.header ≡ Ok h
    → first_row (token_rows token) ≡ first_row (payload_rows p.payload ++ (signature_rows p.signature ++ claims_rows (part_object p.payload)))
header_rows-pass token p h split header =
    (split_rows token p split).0 ∙ passes (header_rows p.header) (payload_rows p.payload ++ (signature_rows p.signature ++ claims_rows (part_object p.payload))) (judged-Ok (first_row (header_rows p.header)) (header_said (part_object p.header)) h header).0

-- a good payload leaves it to the signature
payload_rows-pass : (token : List ℕ) (p : Parts) (h : HeaderSaid) (object : Option Data) → Ok (Some p) ≡ compact_of token → header_of p.header ≡ Ok h → payload_of p.payload ≡ Ok object
    → first_row (token_rows token) ≡ first_row (signature_rows p.signature ++ claims_rows (part_object p.payload))
payload_rows-pass token p h object split header payload =
    header_rows-pass token p h split header ∙ passes (payload_rows p.payload) (signature_rows p.signature ++ claims_rows (part_object p.payload)) (judged-Ok (first_row (payload_rows p.payload)) (part_object p.payload) object payload).0

-- a good signature leaves it to the claims
signature_rows-pass : (token : List ℕ) (p : Parts) (h : HeaderSaid) (object : Option Data) (signature : Option (List ℕ)) → Ok (Some p) ≡ compact_of token → header_of p.header ≡ Ok h → payload_of p.payload ≡ Ok object → signature_of p.signature ≡ Ok signature
    → first_row (token_rows token) ≡ first_row (claims_rows object)
signature_rows-pass token p h object signature split header payload signs =
    payload_rows-pass token p h object split header payload
    ∙ passes (signature_rows p.signature) (claims_rows (part_object p.payload)) (judged-Ok (first_row (signature_rows p.signature)) (part_bytes p.signature) signature signs).0
    ∙ ap (λ o. first_row (claims_rows o)) (judged-Ok (first_row (payload_rows p.payload)) (part_object p.payload) object payload).1

-- the refusal that was found is due
due : (token : List ℕ) (refusal : Refusal) → first_row (token_rows token) ≡ Some refusal → reading_of token ≡ Err refusal
due token refusal is = judged-Some (first_row (token_rows token)) (said_of token) refusal is

-- a refusal of the header is one of the token
pub refused_header : (token : List ℕ) (p : Parts) (refusal : Refusal) → Ok (Some p) ≡ compact_of token → Refuses refusal (header_of p.header) → Refuses refusal (reading_of token)
refused_header token p refusal split =
    refused_through refusal (header_of p.header) (reading_of token) (λ is. due token refusal ((split_rows token p split).0 ∙ stops (header_rows p.header) (payload_rows p.payload ++ (signature_rows p.signature ++ claims_rows (part_object p.payload))) refusal (judged-Err (first_row (header_rows p.header)) (header_said (part_object p.header)) refusal is)))

-- a refusal of the payload is one of the token
pub refused_payload : (token : List ℕ) (p : Parts) (h : HeaderSaid) (refusal : Refusal) → Ok (Some p) ≡ compact_of token → header_of p.header ≡ Ok h → Refuses refusal (payload_of p.payload) → Refuses refusal (reading_of token)
refused_payload token p h refusal split header =
    refused_through refusal (payload_of p.payload) (reading_of token) (λ is. due token refusal (header_rows-pass token p h split header ∙ stops (payload_rows p.payload) (signature_rows p.signature ++ claims_rows (part_object p.payload)) refusal (judged-Err (first_row (payload_rows p.payload)) (part_object p.payload) refusal is)))

-- a refusal of the signature is one of the token
pub refused_signature : (token : List ℕ) (p : Parts) (h : HeaderSaid) (object : Option Data) (refusal : Refusal) → Ok (Some p) ≡ compact_of token → header_of p.header ≡ Ok h → payload_of p.payload ≡ Ok object → Refuses refusal (signature_of p.signature) → Refuses refusal (reading_of token)
refused_signature token p h object refusal split header payload =
    refused_through refusal (signature_of p.signature) (reading_of token) (λ is. due token refusal (payload_rows-pass token p h object split header payload ∙ stops (signature_rows p.signature) (claims_rows (part_object p.payload)) refusal (judged-Err (first_row (signature_rows p.signature)) (part_bytes p.signature) refusal is)))

-- a refusal of the claims is one of the token
pub refused_claims : (token : List ℕ) (p : Parts) (h : HeaderSaid) (object : Option Data) (signature : Option (List ℕ)) (refusal : Refusal) → Ok (Some p) ≡ compact_of token → header_of p.header ≡ Ok h → payload_of p.payload ≡ Ok object → signature_of p.signature ≡ Ok signature → Refuses refusal (claims_of object) → Refuses refusal (reading_of token)
refused_claims token p h object signature refusal split header payload signs =
    refused_through refusal (claims_of object) (reading_of token) (λ is. due token refusal (signature_rows-pass token p h object signature split header payload signs ∙ judged-Err (first_row (claims_rows object)) (claims_said object) refusal is))

same_said : (h k : HeaderSaid) (c d : ClaimsSaid) (g s : Option (List ℕ)) (i j : List ℕ) → h ≡ k → c ≡ d → g ≡ s → i ≡ j → said_by h c g i ≡ said_by k d s j
same_said h k c d g s i j one two three four = rw (one, two, three, four) refl

-- what a token says whose parts are all good
pub all_said : (token : List ℕ) (p : Parts) (h : HeaderSaid) (object : Option Data) (signature : Option (List ℕ)) (claims : ClaimsSaid) (input : List ℕ)
    → Ok (Some p) ≡ compact_of token → header_of p.header ≡ Ok h → payload_of p.payload ≡ Ok object → signature_of p.signature ≡ Ok signature → claims_of object ≡ Ok claims
    → input ≡ signing_input p.header p.payload
    → reading_of token ≡ Ok (said_by h claims signature input)
all_said token p h object signature claims input split header payload signs claim made =
    let read = judged-Ok (first_row (header_rows p.header)) (header_said (part_object p.header)) h header in
    let body = judged-Ok (first_row (payload_rows p.payload)) (part_object p.payload) object payload in
    let bytes = judged-Ok (first_row (signature_rows p.signature)) (part_bytes p.signature) signature signs in
    let says = judged-Ok (first_row (claims_rows object)) (claims_said object) claims claim in
    judged-None (first_row (token_rows token)) (said_of token) _
    (signature_rows-pass token p h object signature split header payload signs ∙ says.0)
    ((split_rows token p split).1 ∙ same_said _ _ _ _ _ _ _ _ read.1 (ap claims_said body.1 ∙ says.1) bytes.1 (sym made))

neither_holds : (one other : Bool) → (one || other) ≡ false → (one ≡ false) × (other ≡ false)
neither_holds false other none = (refl, none)
neither_holds true other none = cc

-- all is said where each part of it is
all_there : (alg : Option Alg) (bytes : Option (List ℕ)) (sub : Option IdParts) (aud : Option (List (List ℕ))) (exp nbf : Option ℕ) (kid jti : Option (List ℕ)) (input : List ℕ)
    → IsSome alg → IsSome bytes → IsSome sub → IsSome aud → IsSome exp
    → IsSome (said_by (record { alg = alg; kid = kid }) (record { sub = sub; aud = aud; exp = exp; nbf = nbf; jti = jti }) bytes input)
all_there None bytes sub aud exp nbf kid jti input one two three four five = one
all_there (Some a) None sub aud exp nbf kid jti input one two three four five = two
all_there (Some a) (Some b) None aud exp nbf kid jti input one two three four five = three
all_there (Some a) (Some b) (Some c) None exp nbf kid jti input one two three four five = four
all_there (Some a) (Some b) (Some c) (Some d) None nbf kid jti input one two three four five = five
all_there (Some a) (Some b) (Some c) (Some d) (Some e) nbf kid jti input one two three four five = refl

-- three parts that nothing refuses say all
parts_there : (p : Parts) → first_row (parts_rows p) ≡ None → IsSome (parts_say p)
parts_there p none =
    let object = part_object p.payload in
    let one = none_of_both (header_rows p.header) (payload_rows p.payload ++ (signature_rows p.signature ++ claims_rows object)) none in
    let two = none_of_both (payload_rows p.payload) (signature_rows p.signature ++ claims_rows object) one.1 in
    let three = none_of_both (signature_rows p.signature) (claims_rows object) two.1 in
    let spelled = passed _ _ _ one.0 in
    let is_object = passed _ _ _ spelled.1 in
    let no_crit = passed _ _ _ is_object.1 in
    let header = read_there object_of (part_bytes p.header) (there _ spelled.0) is_object.0 in
    let spelled = passed _ _ _ two.0 in
    let payload = read_there object_of (part_bytes p.payload) (there _ spelled.0) (passed _ _ _ spelled.1).0 in
    let sub = passed _ _ _ three.1 in
    let aud = passed _ _ _ sub.1 in
    let exp = passed _ _ _ aud.1 in
    all_there _ (part_bytes p.signature) _ _ _ _ _ _ (signing_input p.header p.payload)
    (read_there alg_at (part_object p.header) header (passed _ _ _ no_crit.1).0) (there _ (neither_holds _ _ (passed _ _ _ three.0).0).1)
    (read_there subject_at object payload sub.0) (read_there audiences_at object payload aud.0) (read_there (time_at (codes "exp")) object payload exp.0)

-- a token that was read has its form
pub read_tokens_have_their_form : ReadTokensHaveTheirForm
read_tokens_have_their_form token t is = (none_of_both (compact_rows token) (rows_if_three (parts_of token)) (judged-Ok (first_row (token_rows token)) (said_of token) (Some t) is).0).0

-- a token that nothing refuses says all
pub unrefused_is_said : UnrefusedIsSaid
unrefused_is_said token none = by_parts (parts_of token) (there (parts_of token) (passed _ _ _ (passed _ _ _ both.0).1).0) both.1
  where
    both : (first_row (compact_rows token) ≡ None) × (first_row (rows_if_three (parts_of token)) ≡ None)
    both = none_of_both (compact_rows token) (rows_if_three (parts_of token)) none

    by_parts : (parts : Option Parts) → IsSome parts → first_row (rows_if_three parts) ≡ None → IsSome (option_and_then parts_say parts)
    by_parts None is rest = is
    by_parts (Some p) is rest = parts_there p rest
