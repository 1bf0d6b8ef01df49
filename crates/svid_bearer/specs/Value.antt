-- The value of a header field that carries a bearer token (RFC 9110, section 11.4; RFC 6750, section 2.1).
use Rattle.std.specs.Prelude.{◌≡◌, ℕ, ◌+◌, ◌<◌, Bool, not, ◌==◌, ◌||◌, List, ◌++◌, length, map, drop, codes}
use Rattle.std.specs.Char.{to_ascii_lowercase}
use Rattle.std.specs.Int.{is_in_range}
use Rattle.std.specs.List.{AllPass, before_first, prefix_len}

-- a space (32), which alone may stand between scheme and token (RFC 9110, section 11.4)
abbrev pub is_space : ℕ → Bool
is_space b = b == 32

-- a blank that may stand around the value of a field: a space or a tab (9) (RFC 9110, section 5.6.3)
abbrev pub is_blank : ℕ → Bool
is_blank b = b == 32 || b == 9

-- any other byte
abbrev pub is_word_byte : ℕ → Bool
is_word_byte b = not (is_blank b)

-- a byte of a token before its first '=': a letter, a digit, '-' (45), '.' (46), '_' (95), '~' (126), '+' (43) or '/' (47)
abbrev pub is_token_byte : ℕ → Bool
is_token_byte b =
    is_in_range 97 122 b || is_in_range 65 90 b || is_in_range 48 57 b
    || b == 45 || b == 46 || b == 95 || b == 126 || b == 43 || b == 47

-- '='
abbrev pub is_equals : ℕ → Bool
is_equals b = b == 61

-- a token, b64token in RFC 6750, section 2.1: one or more such bytes, and any number of '='
pub record IsToken (token : List ℕ) : Type 0 where
  pub bytes : List ℕ
  pub equals : List ℕ
  pub spelled : token ≡ bytes ++ equals
  pub not_empty : 0 < length bytes
  pub of_token : AllPass is_token_byte bytes
  pub of_equals : AllPass is_equals equals

-- the scheme 'Bearer', in letters of either case (RFC 9110, section 11.1)
abbrev pub IsBearer : List ℕ → Type 0
IsBearer scheme = map to_ascii_lowercase scheme ≡ codes "bearer"

-- the value of a field that carries a token, which stands at a offset, with the blanks that may stand around the value
pub record Carries (value : List ℕ) (offset : ℕ) (token : List ℕ) : Type 0 where
  pub before : List ℕ
  pub scheme : List ℕ
  pub spaces : List ℕ
  pub after : List ℕ
  pub spelled : value ≡ before ++ (scheme ++ (spaces ++ (token ++ after)))
  pub placed : offset ≡ length before + (length scheme + length spaces)
  pub is_before : AllPass is_blank before
  pub is_scheme : IsBearer scheme
  pub is_spaces : AllPass is_space spaces
  pub some_space : 0 < length spaces
  pub is_token : IsToken token
  pub is_after : AllPass is_blank after

-- what stands before the first blank of a value, but for blanks in front of it
abbrev pub scheme_of : List ℕ → List ℕ
scheme_of value = before_first is_blank (drop (prefix_len is_blank value) value)

-- neither a blank nor a comma (44)
abbrev pub is_no_separator : ℕ → Bool
is_no_separator b = not (is_blank b || b == 44)
