-- Numbers as bytes, the greatest first (RFC 7518, section 2).
use Rattle.std.specs.Prelude.{ℕ, ◌+◌, ◌-◌, ◌*◌, ◌%◌, ◌==◌, Bool, nat_lt, List, [], ◌∷◌, fold, length, slice_index}
use Rattle.std.specs.Int.{leading_zeros, w8}

-- a number with one more byte behind it
abbrev pub with_byte : ℕ → ℕ → ℕ
with_byte number byte = 256 * number + byte

-- the number that bytes are
abbrev pub value : List ℕ → ℕ
value bytes = fold with_byte 0 bytes

-- bytes are a number above 0, and no fewer bytes are that number: the first one is not 0
abbrev pub is_number : List ℕ → Bool
is_number bytes = nat_lt 0 (slice_index bytes 0)

-- bytes are an odd number
abbrev pub is_odd : List ℕ → Bool
is_odd bytes = value bytes % 2 == 1

-- how many bits a number has, from its first bit that is 1
abbrev pub bits : List ℕ → ℕ
bits [] = 0
bits (first ∷ more) = (8 - leading_zeros w8 first) + 8 * length more
