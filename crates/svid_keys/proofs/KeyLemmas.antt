-- An entry is kept as a key exactly where it is one.
use Rattle.std.proofs.Common.{◌≡◌, ℕ, ◌&&◌, Bool, true, false, not, nat_le, if◌then◌else◌, IsSome, List, length, codes, bytes_eq, Option, Some, None, option_and_then, option_map, refl, ap, sym}
use Rattle.std.proofs.lemmas.Bool.{le-leb, leb-true}
use Rattle.std.proofs.lemmas.Slice.Eq.{bytes_eq-Decides}
use Rattle.std.specs.Option.{option_map_or}
use Rattle.serde_json.specs.Data.{Data, object}
use Rattle.serde_json.specs.Find.{as_object}
use Rattle.serde_json.specs.Written.{compact_text, has_float}
use Rattle.svid_token.specs.Json.{text_at}
use Rattle.svid_token.specs.declared.kty.Kty.{Kty}
use Rattle.svid_keys.specs.Key.{IsKey, KeyData, kept_key, kty_in, most_key_bytes}

-- what an entry says of a key
record Says (purpose kid : Option (List ℕ)) (kty : Option Kty) (float short : Bool) (name text : List ℕ) (key : KeyData) : Type 0 where
  is_purpose : purpose ≡ Some (codes "jwt-svid")
  is_kid : kid ≡ Some key.kid
  is_kty : kty ≡ Some key.kty
  no_float : float ≡ false
  is_short : short ≡ true
  is_text : key.text ≡ text
  is_domain : key.domain ≡ name

-- the key of an entry that is usable
abbrev made : Bool → Option (List ℕ) → Option Kty → List ℕ → List ℕ → Option KeyData
made usable kid kty name text =
    if usable then option_and_then (λ k. option_map (λ t. record { domain = name; kid = k; kty = t; text = text }) kty) kid else None

says : (use_ : List ℕ) (same : Bool) → (same ≡ true → use_ ≡ codes "jwt-svid")
    → (kid : Option (List ℕ)) (kty : Option Kty) (float short : Bool) (name text : List ℕ) (key : KeyData)
    → made (same && not float && short) kid kty name text ≡ Some key → Says (Some use_) kid kty float short name text key
says use_ false is kid kty float short name text key e = absurd (cc)
says use_ true is kid kty true short name text key e = absurd (cc)
says use_ true is kid kty false false name text key e = absurd (cc)
says use_ true is None kty false true name text key e = absurd (cc)
says use_ true is (Some k) None false true name text key e = absurd (cc)
says use_ true is (Some k) (Some t) false true name text key e =
    let made_is : record { domain = name; kid = k; kty = t; text = text } ≡ key = cc in
    record {
      is_purpose = ap Some (is refl);
      is_kid = ap (λ (d : KeyData). Some d.kid) made_is;
      is_kty = ap (λ (d : KeyData). Some d.kty) made_is;
      no_float = refl;
      is_short = refl;
      is_text = ap (λ (d : KeyData). d.text) (sym made_is);
      is_domain = ap (λ (d : KeyData). d.domain) (sym made_is);
    }

from_made : (purpose : Option (List ℕ)) (kid : Option (List ℕ)) (kty : Option Kty) (float short : Bool) (name text : List ℕ) (key : KeyData)
    → made (option_map_or (λ use_. bytes_eq use_ (codes "jwt-svid")) purpose false && not float && short) kid kty name text ≡ Some key
    → Says purpose kid kty float short name text key
from_made None kid kty float short name text key e = absurd (cc)
from_made (Some use_) kid kty float short name text key e =
    says use_ _ (bytes_eq-Decides use_ (codes "jwt-svid")).0 kid kty float short name text key e

is_object : (name : List ℕ) (entry : Data) (text : List ℕ) → text_at name entry ≡ Some text → IsSome (as_object entry)
is_object name (object ms) text e = refl
is_object name entry text e = cc

-- an entry from which a key was made is that key
pub IsKey-from_kept : (name : List ℕ) (entry : Data) (key : KeyData) → kept_key name entry ≡ Some key → IsKey name entry key
IsKey-from_kept name entry key kept =
    let said : Says (text_at (codes "use") entry) (text_at (codes "kid") entry) (kty_in entry) (has_float entry) (nat_le (length (compact_text entry)) most_key_bytes) name (compact_text entry) key =
    from_made _ _ _ _ _ name (compact_text entry) key kept in
    record {
      object = is_object (codes "use") entry _ said.is_purpose;
      purpose = said.is_purpose;
      kid = said.is_kid;
      kty = said.is_kty;
      whole = said.no_float;
      text = said.is_text;
      not_long = rw said.is_text (leb-true _ _ said.is_short);
      domain = said.is_domain;
    }

-- of an entry that is a key, that key is made
pub kept_key-IsKey : (name : List ℕ) (entry : Data) (key : KeyData) → IsKey name entry key → kept_key name entry ≡ Some key
kept_key-IsKey name entry key is =
    let short : nat_le (length (compact_text entry)) most_key_bytes ≡ true = le-leb _ _ (rw is.text at is.not_long) in
    rw (is.purpose, is.whole, short, is.kid, is.kty, ← is.text, ← is.domain) refl
