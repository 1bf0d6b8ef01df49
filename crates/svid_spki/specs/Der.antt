-- Values in DER (X.690, sections 8 and 10).
use Rattle.std.specs.Prelude.{ℕ, ◌/◌, ◌%◌, nat_lt, if◌then◌else◌, List, [], ◌∷◌, ◌++◌, length, slice_index}

-- the length of contents that have at most 65,535 bytes, in as few bytes as hold it (sections 8.1.3 and 10.1)
abbrev pub der_length : ℕ → List ℕ
der_length len =
    if nat_lt len 128 then len ∷ []
    else if nat_lt len 256 then 0x81 ∷ len ∷ []
    else 0x82 ∷ (len / 256) ∷ (len % 256) ∷ []

-- a value: its tag, the length of its contents, and these (section 8.1.1)
unfoldable pub der : ℕ → List ℕ → List ℕ
der tag contents = tag ∷ der_length (length contents) ++ contents

-- the contents of a number above 0: a byte 0 stands in front where the first bit is 1, which would make it negative (section 8.3)
unfoldable pub positive : List ℕ → List ℕ
positive number = if nat_lt (slice_index number 0) 128 then number else 0 ∷ number

-- a number above 0 (section 8.3)
abbrev pub integer : List ℕ → List ℕ
integer number = der 0x02 (positive number)

-- a string of all the bits of bytes (section 8.6)
abbrev pub bit_string : List ℕ → List ℕ
bit_string bytes = der 0x03 (0 ∷ bytes)

-- values one after the other, as one (section 8.9)
abbrev pub sequence : List ℕ → List ℕ
sequence values = der 0x30 values
