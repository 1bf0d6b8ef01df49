-- JSON text for people.
use Rattle.std.specs.Prelude.{ℕ, List, [], ◌∷◌, ◌++◌, ◌&&◌, codes, nat_le, if◌then◌else◌, chars, encode_utf8}
use Rattle.std.specs.List.{flat_map}
use Rattle.hex.specs.Hex.{encode_lower}

-- a character of JSON text, or its escape (RFC 8259, section 7) where a terminal may take it for a command: U+007F to U+009F
-- (ECMA-48, section 5.3), which occur in strings only
abbrev pub shown_char : ℕ → List ℕ
shown_char c = if nat_le 127 c && nat_le c 159 then codes "\\u00" ++ encode_lower (c ∷ []) else encode_utf8 c

-- JSON text, with these escapes
abbrev pub shown_text : List ℕ → List ℕ
shown_text text = flat_map shown_char (chars text)
