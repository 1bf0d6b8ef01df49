-- The buckets of a set of uses, the summary of a record, and the answer to a summary.
use Rattle.std.specs.Prelude.{◌≡◌, ◌==◌, ◌&&◌, ℕ, ◌<◌, ◌^◌, Bool, List, [], ◌∷◌, map, not, slice_index, slice_index_or}
use Rattle.std.specs.List.{AllByRecursion, flat_map, range_with_len}
use Rattle.std.specs.Ordering.{is_eq}
use Rattle.sha2.specs.Sha256.{sha256}
use Rattle.svid_replay.specs.declared.token_use.Use.{Use}
use Rattle.svid_replay.specs.Batches.{BatchData, IsBatch}
use Rattle.svid_replay.specs.Parts.{cut}
use Rattle.svid_replay.specs.Records.{State, IsRecord, join, state_of}
use Rattle.svid_replay.specs.Sets.{holds, keep, rising}
use Rattle.svid_replay.specs.Summary.{SummaryData}
use Rattle.svid_replay.specs.Use.{bytes_cmp, text_of}
use Rattle.svid_replay.specs.Uses.{Uses}

-- the bucket of a use: the first byte of its key
abbrev pub bucket_of : Use → ℕ
bucket_of u = slice_index u.key 0

-- the uses of a bucket
abbrev pub bucket : ℕ → Uses → Uses
bucket b uses = keep (λ u. bucket_of u == b) uses

-- the texts of the uses of a bucket, rising, one after the other
abbrev pub bucket_text : ℕ → Uses → List ℕ
bucket_text b uses = flat_map text_of (rising (bucket b uses))

-- the digest of a bucket, by SHA-256 (FIPS 180-4)
unfoldable pub bucket_digest : ℕ → Uses → List ℕ
bucket_digest b uses = sha256 (bucket_text b uses)

-- the digests of the buckets 0 to 255
unfoldable pub digests_of : Uses → List (List ℕ)
digests_of uses = map (λ b. bucket_digest b uses) (range_with_len 0 256)

-- the summary of a record: its moment, and the digests of its buckets
unfoldable pub summary_of : State → SummaryData
summary_of r = record { moment = r.moment; digests = digests_of r.uses }

-- in two lists of digests, those of a use's bucket differ
abbrev pub differ_at : List (List ℕ) → List (List ℕ) → Use → Bool
differ_at own others u = not (is_eq (bytes_cmp (slice_index_or own (bucket_of u) []) (slice_index_or others (bucket_of u) [])))

-- the digest of a use's bucket differs from the summary's
abbrev pub differs : SummaryData → Uses → Use → Bool
differs s uses u = differ_at (digests_of uses) s.digests u

-- the uses of all buckets whose digest differs from the summary's
unfoldable pub stale : SummaryData → Uses → Uses
stale s uses = keep (differs s uses) uses

-- a record advanced to a moment
abbrev pub raised_to : State → ℕ → State
raised_to r moment = join r (state_of moment [])

-- the answer to a summary: advance the record to the summary's moment, and give the uses of all buckets whose digest differs, as
-- batches
unfoldable pub answer_to : State → SummaryData → List BatchData
answer_to r s = cut (raised_to r s.moment).moment (rising (stale s (raised_to r s.moment).uses))

-- a bucket holds the uses that the set holds and whose key begins with its byte
abbrev pub BucketHoldsItsUses : Type 0
BucketHoldsItsUses = (b : ℕ) (s : Uses) (u : Use) → holds (bucket b s) u ≡ (holds s u && (bucket_of u == b))

-- `stale` holds the uses of the set whose bucket's digest differs
abbrev pub StaleHoldsDiffering : Type 0
StaleHoldsDiffering = (summary : SummaryData) (s : Uses) (u : Use) → holds (stale summary s) u ≡ (holds s u && differs summary s u)

-- an advanced record is a record
abbrev pub RaisedIsRecord : Type 0
RaisedIsRecord = (r : State) (moment : ℕ) → IsRecord r → moment < 2 ^ 64 → IsRecord (raised_to r moment)

-- each part of a record's answer is a batch
abbrev pub AnswerIsBatches : Type 0
AnswerIsBatches = (r : State) (s : SummaryData) → IsRecord r → s.moment < 2 ^ 64 → AllByRecursion IsBatch (answer_to r s)

-- the answer of a record to its own summary is one batch without a use
abbrev pub OwnSummaryAsksNothing : Type 0
OwnSummaryAsksNothing = (r : State) → IsRecord r → answer_to r (summary_of r) ≡ record { moment = r.moment; uses = [] } ∷ []
