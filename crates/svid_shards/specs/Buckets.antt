-- The digest and the live uses of one bucket of a set at a moment, and its answer to a summary.
use Rattle.std.specs.Prelude.{◌≡◌, ℕ, ◌≤◌, Bool, List, [], map, not, slice_index_or, if◌then◌else◌}
use Rattle.std.specs.List.{flat_map, range_with_len}
use Rattle.std.specs.Ordering.{is_eq}
use Rattle.svid_replay.specs.declared.token_use.Use.{Use}
use Rattle.svid_replay.specs.Batches.{BatchData}
use Rattle.svid_replay.specs.Buckets.{answer_to, bucket, bucket_digest, raised_to, summary_of}
use Rattle.svid_replay.specs.Records.{State, IsRecord}
use Rattle.svid_replay.specs.Sets.{rising}
use Rattle.svid_replay.specs.Summary.{SummaryData}
use Rattle.svid_replay.specs.Use.{bytes_cmp}
use Rattle.svid_replay.specs.Uses.{Uses, count, live, uses_in}
use Rattle.svid_shards.specs.declared.bucket_digest.BucketDigest.{BucketDigest}

-- the digest of the uses of a bucket that expire after a moment, and how many these are
unfoldable pub digest_at : ℕ → ℕ → Uses → BucketDigest
digest_at b moment uses = record { digest = bucket_digest b (live uses moment); uses = count (bucket b (live uses moment)) }

-- whether the digest of the uses of a bucket that expire after a moment differs from this one
unfoldable pub differs_at : ℕ → ℕ → List ℕ → Uses → Bool
differs_at b moment digest uses = not (is_eq (bytes_cmp (bucket_digest b (live uses moment)) digest))

-- the uses of a bucket that expire after a moment, rising
unfoldable pub uses_at : ℕ → ℕ → Uses → List Use
uses_at b moment uses = rising (bucket b (live uses moment))

-- the uses with which a bucket answers a summary: those that expire after its moment, where their digest differs from the
-- summary's; else none
unfoldable pub answer_at : SummaryData → Uses → ℕ → List Use
answer_at s uses b = if differs_at b s.moment (slice_index_or s.digests b []) uses then uses_at b s.moment uses else []

-- the uses of batches, as a set
abbrev pub uses_told : List BatchData → Uses
uses_told batches = uses_in (flat_map (λ b. b.uses) batches)

-- the digests of all buckets at a moment are those of the summary of the record advanced to it
abbrev pub DigestsAreSummary : Type 0
DigestsAreSummary = (r : State) (moment : ℕ) → r.moment ≤ moment → summary_of (raised_to r moment) ≡ record { moment = moment; digests = map (λ b. (digest_at b moment r.uses).digest) (range_with_len 0 256) }

-- the answers of all buckets of a record have the same uses as its answer to the whole summary
abbrev pub AnswersTellAnswer : Type 0
AnswersTellAnswer = (r : State) (s : SummaryData) → IsRecord r → uses_in (flat_map (answer_at s r.uses) (range_with_len 0 256)) ≡ uses_told (answer_to r s)
