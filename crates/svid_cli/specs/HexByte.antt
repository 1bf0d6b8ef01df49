-- A byte in hexadecimal.
use Rattle.std.specs.Prelude.{ℕ, List, ◌++◌, ◌/◌, ◌%◌, slice_index, encode_utf8}
use Rattle.hex.specs.Hex.{lower_digits}

-- the two lower-case digits of a byte
abbrev pub hex_text : ℕ → List ℕ
hex_text byte = encode_utf8 (slice_index lower_digits (byte / 16)) ++ encode_utf8 (slice_index lower_digits (byte % 16))
