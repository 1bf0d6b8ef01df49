-- Prefixes of keys: different keys may have one, and one key has one.
use Rattle.std.specs.Prelude.{◌≡◌, ◌&&◌, ◌==◌, ◌<◌, ℕ, Bool, true, List, length, nat_lt, not, take}
use Rattle.std.specs.Int.{from_be_bytes, w64}
use Rattle.std.specs.List.{AllByRecursion, list_any}
use Rattle.svid_replay.specs.declared.token_use.Use.{Use}
use Rattle.svid_replay.specs.Runs.{HasBits}
use Rattle.svid_replay.specs.Twice.{used, uses_of}

-- the number whose bytes are the first 8 of the key, most significant first
unfoldable pub prefix_of : List ℕ → ℕ
prefix_of key = from_be_bytes w64 (take 8 key)

-- one of the prefixes is that of the key
abbrev pub has_prefix : List ℕ → List ℕ → Bool
has_prefix ns key = list_any (λ m. m == prefix_of key) ns

-- the use is no withdrawal, and its key has one of these prefixes
abbrev pub is_among : List ℕ → Use → Bool
is_among ns u = not u.withdrawn && has_prefix ns u.key

-- a filter knows the keys of the uses that are no withdrawals, and the prefixes have that of each key that two of them have
pub record IsNoted (us : List Use) (key_filter prefixes : List ℕ) : Type 0 where
  pub some : 0 < length key_filter
  pub known : AllByRecursion (λ u. HasBits key_filter u.key) (used us)
  pub twice : (key : List ℕ) → nat_lt 1 (length (uses_of key (used us))) ≡ true → has_prefix prefixes key ≡ true
