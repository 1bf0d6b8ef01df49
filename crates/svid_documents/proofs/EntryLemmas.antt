-- An entry is a key for which there is no reason, exactly where `svid_keys` keeps it.
use Rattle.std.proofs.Common.{◌≡◌, ℕ, ◌&&◌, Bool, true, false, not, is_none, nat_le, if◌then◌else◌, List, [], ◌∷◌, length, codes, bytes_eq, Option, Some, None, option_and_then, option_map, Err, refl, sym, subst}
use Rattle.std.proofs.lemmas.Bool.{true≢false}
use Rattle.std.proofs.lemmas.Slice.Eq.{bytes_eq-Decides}
use Rattle.std.specs.Option.{option_map_or}
use Rattle.std.specs.Result.{result_ok}
use Rattle.serde_json.specs.Data.{Data, object, string}
use Rattle.serde_json.specs.Find.{as_str, get_member}
use Rattle.serde_json.specs.Written.{compact_text, has_float}
use Rattle.svid_token.specs.Json.{json_of, text_at}
use Rattle.svid_token.specs.declared.kty.Kty.{Kty}
use Rattle.svid_keys.specs.Key.{KeyData, kept_key, kty_in, most_key_bytes}
use Rattle.svid_documents.specs.Entry.{Row, entry_due, first_row, kept_text, key_due, unless}
use Rattle.svid_documents.specs.declared.entry_fault.EntryFault.TheVariants.{NotObject, NoUse, X509, Use, Kid, Kty as BadKty, Number, TooLong}

-- the text of the key that is kept of an entry, by what the entry says
abbrev kept_by : Bool → Option (List ℕ) → Option Kty → Bool → Bool → List ℕ → List ℕ → Option (List ℕ)
kept_by svids kid kty float short name text =
    option_map (λ (key : KeyData). key.text)
    (if svids && not float && short then option_and_then (λ k. option_map (λ t. record { domain = name; kid = k; kty = t; text = text }) kty) kid else None)

-- the reasons behind that there is no `use`
abbrev rows_by : Bool → Bool → Option (List ℕ) → Option Kty → Bool → Bool → List Row
rows_by x509 svids kid kty float short =
    (X509, x509) ∷ (Use, not svids) ∷ (Kid, is_none kid) ∷ (BadKty, is_none kty) ∷ (Number, float) ∷ (TooLong, not short) ∷ []

by_purpose : (x509 svids : Bool) (kid : Option (List ℕ)) (kty : Option Kty) (float short : Bool) (name text : List ℕ) → (svids ≡ true → x509 ≡ false)
    → result_ok (unless (first_row (rows_by x509 svids kid kty float short)) text) ≡ kept_by svids kid kty float short name text
by_purpose true true kid kty float short name text apart = absurd (true≢false (apart refl))
by_purpose true false kid kty float short name text apart = refl
by_purpose false false kid kty float short name text apart = refl
by_purpose false true None kty true short name text apart = refl
by_purpose false true None kty false true name text apart = refl
by_purpose false true None kty false false name text apart = refl
by_purpose false true (Some k) None true short name text apart = refl
by_purpose false true (Some k) None false true name text apart = refl
by_purpose false true (Some k) None false false name text apart = refl
by_purpose false true (Some k) (Some t) true short name text apart = refl
by_purpose false true (Some k) (Some t) false true name text apart = refl
by_purpose false true (Some k) (Some t) false false name text apart = refl

-- what is for JWT-SVIDs is not for X.509-SVIDs
apart_uses : (use_ : List ℕ) → bytes_eq use_ (codes "jwt-svid") ≡ true → bytes_eq use_ (codes "x509-svid") ≡ false
apart_uses use_ is = subst (λ u. bytes_eq u (codes "x509-svid") ≡ false) (sym ((bytes_eq-Decides use_ (codes "jwt-svid")).0 is)) refl

abbrev is_use : List ℕ → Option Data → Bool
is_use purpose use_ = option_map_or (λ u. bytes_eq u purpose) (option_and_then as_str use_) false

by_use : (use_ : Option Data) (kid : Option (List ℕ)) (kty : Option Kty) (float short : Bool) (name text : List ℕ)
    → result_ok (unless (first_row ((NoUse, is_none use_) ∷ rows_by (is_use (codes "x509-svid") use_) (is_use (codes "jwt-svid") use_) kid kty float short)) text)
    ≡ kept_by (is_use (codes "jwt-svid") use_) kid kty float short name text
by_use None kid kty float short name text = refl
by_use (Some (string u)) kid kty float short name text = by_purpose (bytes_eq u (codes "x509-svid")) (bytes_eq u (codes "jwt-svid")) kid kty float short name text (apart_uses u)
by_use (Some _) kid kty float short name text = refl

same_entry : (domain : List ℕ) (entry : Data) → result_ok (entry_due entry) ≡ option_map (λ (key : KeyData). key.text) (kept_key domain entry)
same_entry domain (object ms) =
    by_use (get_member (codes "use") ms) (text_at (codes "kid") (object ms)) (kty_in (object ms)) (has_float (object ms))
    (nat_le (length (compact_text (object ms))) most_key_bytes) domain (compact_text (object ms))
same_entry domain _ = refl

by_json : (domain : List ℕ) (found : Option Data)
    → result_ok (option_map_or entry_due found (Err NotObject)) ≡ option_map (λ (key : KeyData). key.text) (option_and_then (kept_key domain) found)
by_json domain None = refl
by_json domain (Some entry) = same_entry domain entry

-- the text that is due to an entry is that of the key that is kept of it
pub same_texts : (domain entry : List ℕ) → result_ok (key_due entry) ≡ kept_text domain entry
same_texts domain entry = by_json domain (json_of entry)
