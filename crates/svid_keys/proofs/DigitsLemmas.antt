-- Digits by their table, and the bytes of two digits each.
use Rattle.std.proofs.Common.{◌≡◌, ◌≢◌, ℕ, ◌+◌, ◌*◌, ◌%◌, ◌<◌, ◌≤◌, List, length, map, get_or, Option, Some, None, unwrap_or, Result, Ok, Err, inl, inr, refl, ap, subst, ◌∙◌, arith}
use Rattle.std.proofs.lemmas.Bool.{cases_eq}
use Rattle.std.proofs.lemmas.List.FromFn.{get_or-map-range_with_len}
use Rattle.std.specs.List.{range_with_len}
use Rattle.std.specs.Result.{result_ok}
use Rattle.hex.specs.Hex.{hex_digit_value, pair_value, value_at, ◌>>=◌}
use Rattle.hex.specs.declared.error.FromHexError.{FromHexError}
use Rattle.hex.proofs.HexLemmas.{decode_sized-odd, decode_sized-other}
use Rattle.svid_keys.specs.Table.{question_in}
use Rattle.svid_keys.specs.declared.digits.TheConstants.{DIGITS}

abbrev marked : ℕ → ℕ
marked c = unwrap_or (hex_digit_value c) 255

table_is : DIGITS ≡ map marked (range_with_len 0 256)
table_is = refl

in_table : (c : ℕ) → c < 256 → get_or DIGITS c 0 ≡ marked c
in_table c within = ap (λ (t : List ℕ). get_or t c 0) table_is ∙ get_or-map-range_with_len marked 0 256 c c 0 within (omega arith)

some_marked : (o : Option ℕ) → unwrap_or o 255 < 16 → Some (unwrap_or o 255) ≡ o
some_marked (Some v) small = refl
some_marked None small = absurd (omega arith)

small_value : (c v : ℕ) → hex_digit_value c ≡ Some v → v < 16
small_value c v is = grind (arith)

none_marked : (c : ℕ) (o : Option ℕ) → hex_digit_value c ≡ o → 16 ≤ unwrap_or o 255 → None ≡ o
none_marked c (Some v) is big = let small = small_value c v is in absurd (omega arith)
none_marked c None is big = refl

-- a digit is its entry in the table
pub digit_read : (c : ℕ) → c < 256 → get_or DIGITS c 0 < 16 → Some (get_or DIGITS c 0) ≡ hex_digit_value c
digit_read c within small =
    let e = in_table c within in
    ap Some e ∙ some_marked (hex_digit_value c) (subst (λ (n : ℕ). n < 16) e small)

-- a byte with no value in the table is no digit
pub digit_refused : (c : ℕ) → c < 256 → 16 ≤ get_or DIGITS c 0 → None ≡ hex_digit_value c
digit_refused c within big =
    none_marked c (hex_digit_value c) refl (subst (λ (n : ℕ). 16 ≤ n) (in_table c within) big)

-- two digits are a byte
pub byte_read : (high low h l i : ℕ) → hex_digit_value high ≡ Some h → hex_digit_value low ≡ Some l
    → result_ok (pair_value high low i) ≡ Some (h * 16 + l)
byte_read high low h l i is_high is_low = rw (is_high, is_low) refl

pub no_high : (high low i : ℕ) → hex_digit_value high ≡ None → result_ok (pair_value high low i) ≡ None
no_high high low i none = rw none refl

none_after : (first : Result ℕ FromHexError) (next : ℕ → Result ℕ FromHexError) → ((h : ℕ) → result_ok (next h) ≡ None)
    → result_ok (first >>= next) ≡ None
none_after (Ok h) next none = none h
none_after (Err e) next none = refl

pub no_low : (high low i : ℕ) → hex_digit_value low ≡ None → result_ok (pair_value high low i) ≡ None
no_low high low i none = none_after (value_at high i) (λ h. value_at low (i + 1) >>= (λ l. Ok (h * 16 + l))) (λ h. rw none refl)

-- what a byte, or none, says of how two digits were read
pub was_ok : (r : Result ℕ FromHexError) (v : ℕ) → Some v ≡ result_ok r → r ≡ Ok v
was_ok (Ok x) v e = let same : x ≡ v = cc in ap Ok same
was_ok (Err fault) v e = absurd (cc)

pub was_err : (r : Result ℕ FromHexError) → None ≡ result_ok r → (fault : FromHexError) × (r ≡ Err fault)
was_err (Ok x) e = absurd (cc)
was_err (Err fault) e = (fault, refl)

-- a line of another length is no question
pub other_length : (line : List ℕ) → length line ≢ 64 → question_in line ≡ None
other_length line other = elim (cases_eq (length line % 2) 1) [
  | inl odd ↦ rw (decode_sized-odd line 32 odd) refl
  | inr even ↦
      let whole : length line % 2 ≡ 0 = omega arith in
      rw (decode_sized-other line 32 whole (λ half. other (omega arith))) refl
]
