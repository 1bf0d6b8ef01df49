use Rattle.std.specs.Prelude.{◌≡◌, ℕ, ◌<◌, ◌^◌, List, [], ◌∷◌, ◌++◌, length, All}
use Rattle.std.specs.Ordering.{nat_cmp, bool_cmp, ordering_then}
use Rattle.std.specs.Cmp.Lexicographic.{slice_cmp}
use Rattle.std.specs.declared.cmp.Ordering.{Ordering}
use Rattle.std.specs.List.Sorted.{IsStrictlySortedBy}
use Rattle.std.specs.Int.{from_bool, to_be_bytes, w64}
use Rattle.svid_replay.specs.declared.token_use.Use.{Use}

-- a list of so many bytes
pub record IsBytes (count : ℕ) (bytes : List ℕ) : Type 0 where
  pub size : length bytes ≡ count
  pub each : All (λ b. b < 256) bytes

-- the numbers and bytes of a use have the ranges and lengths of their fields
pub record IsUse (u : Use) : Type 0 where
  pub exp : u.exp < 2 ^ 64
  pub key : IsBytes 32 u.key
  pub validator_id : IsBytes 16 u.validator_id
  pub at : u.at < 2 ^ 64

-- the first 64 bytes of a use: exp, key, validator ID, at, each number with its most significant byte first
unfoldable pub front_text : Use → List ℕ
front_text u = to_be_bytes w64 u.exp ++ u.key ++ u.validator_id ++ to_be_bytes w64 u.at

-- the 65 bytes of a use: its first 64, and then 1 for a withdrawal or else 0
unfoldable pub text_of : Use → List ℕ
text_of u = front_text u ++ from_bool u.withdrawn ∷ []

-- the order of uses: by exp, then by key, by validator ID, by at, and then a withdrawal after a use
abbrev pub use_cmp : Use → Use → Ordering
use_cmp u v = ordering_then (nat_cmp u.exp v.exp) (ordering_then (slice_cmp nat_cmp u.key v.key) (ordering_then (slice_cmp nat_cmp u.validator_id v.validator_id) (ordering_then (nat_cmp u.at v.at) (bool_cmp u.withdrawn v.withdrawn))))

-- byte lists in lexicographic order
abbrev pub bytes_cmp : List ℕ → List ℕ → Ordering
bytes_cmp = slice_cmp nat_cmp

-- the order of uses is the order of their texts
abbrev pub OrderIsTextOrder : Type 0
OrderIsTextOrder = (u v : Use) → IsUse u → IsUse v → use_cmp u v ≡ bytes_cmp (text_of u) (text_of v)

-- each use is less than those after it
abbrev pub IsRising : List Use → Type 0
IsRising = IsStrictlySortedBy use_cmp
