-- The line of a mistake on the command line.
use Rattle.std.specs.Prelude.{◌≡◌, ℕ, Bool, true, not, List, [], ◌∷◌, ◌++◌, ◌==◌, ◌&&◌, ◌||◌, ◌-◌, codes, nat_le, nat_lt, if◌then◌else◌}

-- a control character of ASCII (ECMA-48, section 5.2), or DEL; a line end is one of them
abbrev pub is_control : ℕ → Bool
is_control byte = nat_lt byte 32 || (byte == 127)

-- a byte that a token may have: of base64url (RFC 4648, section 5), or a dot (RFC 7515, section 3.1)
abbrev pub is_of_token : ℕ → Bool
is_of_token byte = (nat_le 48 byte && nat_le byte 57) || (nat_le 65 byte && nat_le byte 90) || (nat_le 97 byte && nat_le byte 122) || (byte == 45) || (byte == 95) || (byte == 46)

-- how many bytes of a token are shown: no more than its header has at least
abbrev pub most_of_token : ℕ
most_of_token = 20

-- what the line has for a byte, where so many bytes of a token may still be shown: nothing for a control character, except that a
-- line end becomes a separator
abbrev pub shown : ℕ → ℕ → List ℕ
shown left byte =
    if is_of_token byte then if nat_lt 0 left then byte ∷ [] else []
    else if byte == 10 then codes "; "
    else if is_control byte then []
    else byte ∷ []

-- how many may be shown after it
abbrev pub left_after : ℕ → ℕ → ℕ
left_after left byte =
    if is_of_token byte then left - 1
    else if is_control byte then left
    else most_of_token

-- what the line has for bytes, where so many bytes of a token may still be shown
unfoldable pub shown_from : ℕ → List ℕ → List ℕ
shown_from left [] = []
shown_from left (byte ∷ rest) = shown left byte ++ shown_from (left_after left byte) rest

-- a line begins with at most so many bytes of a token in a row, and has at most `most_of_token` in a row anywhere after these
unfoldable pub hides_tokens : ℕ → List ℕ → Bool
hides_tokens left [] = true
hides_tokens left (byte ∷ rest) = if is_of_token byte then nat_lt 0 left && hides_tokens (left - 1) rest else hides_tokens most_of_token rest

-- a line has no control character, so it is one line
unfoldable pub is_one_line : List ℕ → Bool
is_one_line [] = true
is_one_line (byte ∷ rest) = not (is_control byte) && is_one_line rest

-- what is wrong, and which help to ask for
abbrev pub mistake_text : List ℕ → List ℕ → List ℕ
mistake_text told help = codes "svid: " ++ (told ++ (codes "; see '" ++ (help ++ codes "'")))

-- a line has what is shown of that
abbrev pub HasWords : List ℕ → List ℕ → Type 0
HasWords help line = (told : List ℕ) × (line ≡ shown_from most_of_token (mistake_text told help))
