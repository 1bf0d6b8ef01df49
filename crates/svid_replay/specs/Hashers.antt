-- What the hashers of all buckets hold.
use Rattle.std.specs.Prelude.{◌≡◌, ◌==◌, ℕ, ◌<◌, List, [], Option, None, Some, length, map, slice_index_or}
use Rattle.std.specs.List.{filter, flat_map, range_with_len}
use Rattle.sha2.specs.declared.Sha256.{Sha256}
use Rattle.sha2.specs.Hashers.{Holds256}
use Rattle.sha2.specs.Sha256.{sha256}
use Rattle.svid_replay.specs.declared.token_use.Use.{Use}
use Rattle.svid_replay.specs.Buckets.{bucket_of}
use Rattle.svid_replay.specs.Use.{text_of}

-- the texts of the uses of a bucket, one after the other
abbrev pub text_in : ℕ → List Use → List ℕ
text_in b us = flat_map text_of (filter (λ u. bucket_of u == b) us)

-- the digests of these texts, for the buckets 0 to 255
unfoldable pub digests_in : List Use → List (List ℕ)
digests_in us = map (λ b. sha256 (text_in b us)) (range_with_len 0 256)

-- a hasher that may be there holds a text: no hasher stands for the text of no bytes
abbrev pub HoldsText : Option Sha256 → List ℕ → Type 0
HoldsText None text = text ≡ []
HoldsText (Some hasher) text = Holds256 hasher text

-- 256 hashers, and each holds the texts of the uses of its bucket
pub record HoldBuckets (hashers : List (Option Sha256)) (us : List Use) : Type 0 where
  pub full : length hashers ≡ 256
  pub each : (b : ℕ) (d : Option Sha256) → b < 256 → HoldsText (slice_index_or hashers b d) (text_in b us)
