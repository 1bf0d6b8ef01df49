-- Lemmas about specs/Object.antt: from a part's bytes to its object.
use Rattle.std.proofs.Common.{◌≡◌, ℕ, List, [], ◌∷◌, ◌++◌, false, is_none, Option, Some, None, option_and_then, Result, Ok, Err, refl, ap, ◌∙◌}
use Rattle.serde_json.specs.Data.{Data}
use Rattle.svid_token.specs.Header.{header_from, header_object_rows, header_of, header_said}
use Rattle.svid_token.specs.Json.{object_of}
use Rattle.svid_token.specs.Object.{object_due, object_rows, part_object}
use Rattle.svid_token.specs.Part.{bytes_due, part_bytes}
use Rattle.svid_token.specs.Rows.{Refuses, Row, fails, first_row, judged}
use Rattle.svid_token.specs.declared.refusal.Refusal.{Refusal}
use Rattle.svid_token.specs.declared.refusal.Refusal.TheVariants.{HeaderSpelling, HeaderNotObject, OutOfMemory}

-- if something is said, only a lack of memory refuses
refuses-ok : {A B : Type 0} (refusal : Refusal) (said : A) (due : Result B Refusal) → Refuses refusal (Ok said) → Refuses refusal due
refuses-ok OutOfMemory said due refused = tt
refuses-ok _ said due refused = absurd (cc)

refuses-err : (A B : Type 0) (refusal fault : Refusal) → Refuses {A = A} refusal (Err fault) → Refuses {A = B} refusal (Err fault)
refuses-err A B OutOfMemory fault refused = tt
refuses-err A B other fault refused = let same : fault ≡ other = cc in ap Err same

refuses_found : (spelling not_object refusal : Refusal) (found : Option (List ℕ))
    → Refuses refusal (judged (first_row ((spelling, is_none found) ∷ [])) found)
    → Refuses refusal (judged (first_row ((spelling, is_none found) ∷ (not_object, fails object_of found) ∷ [])) (option_and_then object_of found))
refuses_found spelling not_object refusal None refused = refuses-err (Option (List ℕ)) (Option Data) refusal spelling refused
refuses_found spelling not_object refusal (Some bytes) refused = refuses-ok refusal (Some bytes) _ refused

-- what refuses a part's bytes refuses its object
pub refuses_object : (spelling not_object refusal : Refusal) (part : List ℕ) → Refuses refusal (bytes_due spelling part)
    → Refuses refusal (object_due spelling not_object part)
refuses_object spelling not_object refusal part refused = refuses_found spelling not_object refusal (part_bytes part) refused

found_bytes : (spelling : Refusal) (found : Option (List ℕ)) (bytes : List ℕ)
    → judged (first_row ((spelling, is_none found) ∷ [])) found ≡ Ok (Some bytes) → found ≡ Some bytes
found_bytes spelling None bytes e = absurd (cc)
found_bytes spelling (Some b) bytes e = cc

-- the object that a part's bytes are is due
pub object_due-some : (spelling not_object : Refusal) (part bytes : List ℕ) (d : Data) → bytes_due spelling part ≡ Ok (Some bytes)
    → object_of bytes ≡ Some d → object_due spelling not_object part ≡ Ok (Some d)
object_due-some spelling not_object part bytes d e some = rw (found_bytes spelling (part_bytes part) bytes e, some) refl

found_object : (spelling not_object : Refusal) (found : Option Data) (d : Data)
    → judged (first_row ((spelling, false) ∷ (not_object, is_none found) ∷ [])) found ≡ Ok (Some d)
    → (found ≡ Some d) × ((rows : List Row) → first_row ((spelling, false) ∷ (not_object, is_none found) ∷ rows) ≡ first_row rows)
found_object spelling not_object None d e = absurd (cc)
found_object spelling not_object (Some x) d e = (cc, λ rows. refl)

found_part : (spelling not_object : Refusal) (found : Option (List ℕ)) (d : Data)
    → judged (first_row ((spelling, is_none found) ∷ (not_object, fails object_of found) ∷ [])) (option_and_then object_of found) ≡ Ok (Some d)
    → (option_and_then object_of found ≡ Some d)
    × ((rows : List Row) → first_row ((spelling, is_none found) ∷ (not_object, fails object_of found) ∷ rows) ≡ first_row rows)
found_part spelling not_object None d e = absurd (cc)
found_part spelling not_object (Some bytes) d e = found_object spelling not_object (object_of bytes) d e

-- what is due to a header that spells an object is what is due to that object
pub header_of-object : (part : List ℕ) (d : Data) → object_due HeaderSpelling HeaderNotObject part ≡ Ok (Some d) → header_of part ≡ header_from (Some d)
header_of-object part d e =
    let found : (part_object part ≡ Some d) × ((rows : List Row) → first_row (object_rows HeaderSpelling HeaderNotObject part ++ rows) ≡ first_row rows) =
    found_part HeaderSpelling HeaderNotObject (part_bytes part) d e in
    ap (λ row. judged row (header_said (part_object part))) (found.1 (header_object_rows (part_object part))) ∙ ap header_from found.0
