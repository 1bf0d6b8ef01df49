-- The content of a summary.
use Rattle.std.specs.Prelude.{◌≡◌, ℕ, ◌<◌, ◌^◌, List, length}
use Rattle.std.specs.List.{AllByRecursion}
use Rattle.svid_replay.specs.Use.{IsBytes}

-- the content of a summary: a moment, and the digest of each bucket
pub record SummaryData : Type 0 where
  pub moment : ℕ
  pub digests : List (List ℕ)

-- what a summary may have: 256 digests, each of 32 bytes, and a moment within its range
pub record IsSummary (s : SummaryData) : Type 0 where
  pub moment : s.moment < 2 ^ 64
  pub full : length s.digests ≡ 256
  pub fields : AllByRecursion (IsBytes 32) s.digests
