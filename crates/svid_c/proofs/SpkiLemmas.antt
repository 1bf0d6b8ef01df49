-- Names of algorithms are text.
use Rattle.std.proofs.Common.{◌≡◌, ℕ, List, [], ◌∷◌, Bool, None, true, false, ltb-true, subst, sym, refl, inl, inr}
use Rattle.std.proofs.lemmas.Bool.{cases_Bool, false≢true}
use Rattle.std.proofs.lemmas.Slice.Eq.{bytes_eq-Decides}
use Rattle.std.proofs.lemmas.Str.{IsUtf8-from_ascii}
use Rattle.std.proofs.lemmas.Str.Ascii.{IsAscii-cons, IsAscii-nil}
use Rattle.std.specs.Prelude.{IsAscii, IsUtf8, bytes_eq, codes, if◌then◌else◌, nat_lt}
use Rattle.svid_token.specs.Alg.{alg_named}

-- each byte is ASCII
abbrev is_ascii : List ℕ → Bool
is_ascii [] = true
is_ascii (b ∷ bs) = if nat_lt b 128 then is_ascii bs else false

ascii : (text : List ℕ) → is_ascii text ≡ true → IsAscii text
ascii [] good = IsAscii-nil
ascii (b ∷ bs) good = elim (cases_Bool (nat_lt b 128)) [
  | inl small ↦ IsAscii-cons b bs (ltb-true _ _ small) (ascii bs (rw small at good))
  | inr great ↦ absurd (false≢true (rw great at good))
]

-- what is no text is not this one
other : (name text : List ℕ) → ¬ IsUtf8 name → is_ascii text ≡ true → bytes_eq name text ≡ false
other name text bad good = elim (cases_Bool (bytes_eq name text)) [
  | inl same ↦ absurd (bad (subst IsUtf8 (sym ((bytes_eq-Decides name text).0 same)) (IsUtf8-from_ascii text (ascii text good))))
  | inr unlike ↦ unlike
]

-- what is no text names no algorithm
pub none_named : (name : List ℕ) → ¬ IsUtf8 name → None ≡ alg_named name
none_named name bad =
    rw (
      other name (codes "RS256") bad refl,
      other name (codes "RS384") bad refl,
      other name (codes "RS512") bad refl,
      other name (codes "ES256") bad refl,
      other name (codes "ES384") bad refl,
      other name (codes "ES512") bad refl,
      other name (codes "PS256") bad refl,
      other name (codes "PS384") bad refl,
      other name (codes "PS512") bad refl,
    ) refl
