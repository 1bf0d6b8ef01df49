use Rattle.std.specs.Prelude.{◌≡◌, ◌==◌, ◌≤◌, ℕ, List, [], ◌∷◌, length, map, flat_map, set, slice_index_or, Option, None, Some, Bool, true, false, nat_lt, IsTrue}
use Rattle.std.specs.List.{sum_by}
use Rattle.svid_replay.specs.declared.token_use.Use.{Use}
use Rattle.svid_replay.specs.Batches.{is_after}
use Rattle.svid_replay.specs.Buckets.{bucket_of}
use Rattle.svid_replay.specs.Runs.{least_of}
use Rattle.svid_replay.specs.Sets.{holds, rising, with}
use Rattle.svid_replay.specs.Uses.{Uses, count, next_above, no_uses, uses_in}

-- the shard of this number
abbrev pub shard : List Uses → ℕ → Uses
shard shards i = slice_index_or shards i no_uses

-- the uses of all shards, as one set
unfoldable pub all_in : List Uses → Uses
all_in shards = uses_in (flat_map rising shards)

-- how many uses the shards have together
abbrev pub total_of : List Uses → ℕ
total_of shards = sum_by count shards

-- each shard has only uses whose key begins with the shard's number
abbrev pub AreApart : List Uses → Type 0
AreApart shards = (i : ℕ) (u : Use) → IsTrue (holds (shard shards i) u) → bucket_of u ≡ i

-- no use of a shard expires before this second
abbrev pub ExpireFrom : ℕ → List Uses → Type 0
ExpireFrom first shards = (i : ℕ) (u : Use) → IsTrue (holds (shard shards i) u) → first ≤ u.exp

-- 256 shards that keep apart: together they have so many uses, and none of these expires before this second
pub record IsSharded (shards : List Uses) (total first : ℕ) : Type 0 where
  pub long : length shards ≡ 256
  pub apart : AreApart shards
  pub counted : total ≡ total_of shards
  pub lasting : ExpireFrom first shards

-- the next use of each shard
abbrev pub heads_of : List Uses → Option Use → List (Option Use)
heads_of shards after = map (λ s. next_above s after) shards

-- the least of a use and the heads that are there
abbrev pub least_in : Option Use → List (Option Use) → Option Use
least_in least [] = least
least_in least (head ∷ heads) = least_in (least_of least head) heads

-- a use is put into the shard of its key
abbrev pub IsPut : List Uses → Use → List Uses → Type 0
IsPut before new after = after ≡ set before (bucket_of new) (with (shard before (bucket_of new)) new)

-- the first second is there, and the other is missing or later
abbrev pub is_before : Option ℕ → Option ℕ → Bool
is_before None other = false
is_before (Some a) None = true
is_before (Some a) (Some b) = nat_lt a b

-- each of 256 heads is of the shard whose number is its index
pub record AreHeads (heads : List (Option Use)) : Type 0 where
  pub long : length heads ≡ 256
  pub each : (i : ℕ) (u : Use) → slice_index_or heads i None ≡ Some u → bucket_of u ≡ i

-- each head is greater than this use, where there is one
abbrev pub AreBehind : Option Use → List (Option Use) → Type 0
AreBehind last heads = (i : ℕ) (u : Use) → slice_index_or heads i None ≡ Some u → is_after last u ≡ true

-- it is there, and equals this second
abbrev pub is_second : ℕ → Option ℕ → Bool
is_second exp None = false
is_second exp (Some second) = second == exp
