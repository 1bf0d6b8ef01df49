-- A walk over uses: it has some of them at hand, and may know what comes next in each bucket.
use Rattle.std.specs.Prelude.{◌≡◌, ℕ, true, List, Option, None, Some, filter, map, take}
use Rattle.std.specs.List.{range_with_len}
use Rattle.svid_replay.specs.declared.ahead.Ahead.{Ahead}
use Rattle.svid_replay.specs.declared.token_use.Use.{Use}
use Rattle.svid_replay.specs.Batches.{is_after}
use Rattle.svid_replay.specs.Buckets.{bucket}
use Rattle.svid_replay.specs.Sets.{rising}
use Rattle.svid_replay.specs.Uses.{Uses, next_above}

-- the uses of a set, or those that are greater than the one given, rising
abbrev pub uses_behind : Uses → Option Use → List Use
uses_behind s after = filter (is_after after) (rising s)

-- the first 64 of them
abbrev pub next_few : Uses → Option Use → List Use
next_few s after = take 64 (uses_behind s after)

-- when a use expires, if there is one
abbrev pub exp_if_any : Option Use → Option ℕ
exp_if_any None = None
exp_if_any (Some u) = Some u.exp

-- the expiry of the next use in each bucket of a set, after a use or from the first on
unfoldable pub heads_in : Uses → Option Use → List (Option ℕ)
heads_in s after = map (λ b. exp_if_any (next_above (bucket b s) after)) (range_with_len 0 256)

-- the heads, where known, are those of the set
abbrev pub IsAhead : Uses → Ahead → Type 0
IsAhead s ahead = ahead.known ≡ true → ahead.heads ≡ heads_in s ahead.after
