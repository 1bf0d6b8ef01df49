-- What the calls on one bucket of a record do, and those that make a summary from the digests of all buckets, or read one.
use Rattle.std.specs.Prelude.{◌≡◌, ℕ, Bool, List, [], ◌∷◌, length, slice_index_or}
use Rattle.std.specs.List.{slice_set}
use Rattle.svid_replay.specs.Summary.{SummaryData}
use Rattle.svid_shards.specs.Buckets.{differs_at, digest_at, uses_at}
use Rattle.svid_shards.specs.declared.bucket_digest.BucketDigest.{BucketDigest}
use Rattle.svid_share.specs.declared.tool_fault.ToolFault.{ToolFault}
use Rattle.svid_wire.specs.SummaryText.{summary_text}
use Rattle.svid_wire.specs.declared.message.Message.TheVariants.{Summary}
use Rattle.svid_c.specs.Entries.{AreWritten}
use Rattle.svid_c.specs.Inputs.{AreMessages}
use Rattle.svid_c.specs.Joined.{IsSummaryRefused}
use Rattle.svid_c.specs.Live.{Kept}
use Rattle.svid_c.specs.Status.{fault_number, told_fault, told_length, told_rows}
use Rattle.svid_c.specs.Written.{IsPut}
use Rattle.svid_c.specs.declared.validator_digest.SvidDigests.{SvidDigests}
use Rattle.svid_c.specs.declared.told.SvidTold.{SvidTold}

-- the digest of a bucket of a validator's record at a moment: that of its uses that expire later, and how many these are
abbrev pub digest_of : Kept → ℕ → ℕ → BucketDigest
digest_of held bucket moment = digest_at bucket moment held.state.uses

-- digests, with that of a bucket of this record in its place
abbrev pub with_bucket : Kept → ℕ → SvidDigests → SvidDigests
with_bucket held bucket d = record { moment = d.moment; digests = slice_set d.digests bucket (digest_of held bucket d.moment).digest }

-- what computing the digest of a bucket does: it is written to the bucket's place, and the answer is the number of its uses
pub record TellsDigest (bucket status : ℕ) (told : SvidTold) (old_digests new_digests : SvidDigests) (old new : Kept) : Type 0 where
  pub done : status ≡ 0
  pub uses : told ≡ told_length (digest_of old bucket old_digests.moment).uses
  pub digest : new_digests ≡ with_bucket old bucket old_digests
  pub kept : new ≡ old

-- the summary that digests of all buckets are
abbrev pub summary_from : SvidDigests → SummaryData
summary_from d = record { moment = d.moment; digests = d.digests }

-- what making a summary does: its text is put, or has no room; or memory was refused
pub data WritesSummary (digests : SvidDigests) (status : ℕ) (told : SvidTold) (old_out new_out : List ℕ) : Type 0 where
  summary_written : (text : List ℕ) → text ≡ summary_text (summary_from digests) → IsPut text status old_out new_out → told ≡ told_length (length text) → WritesSummary digests status told old_out new_out
  summary_unwritten : status ≡ 2 → told ≡ told_length 0 → new_out ≡ old_out → WritesSummary digests status told old_out new_out

-- What reading a summary does: it is the one that the digests are then; or the bytes are no one summary, and the digests are as they were.
pub data ReadsSummary (summary : List ℕ) (status : ℕ) (told : SvidTold) (old new : SvidDigests) : Type 0 where
  summary_read : AreMessages summary (Summary (summary_from new) ∷ []) → status ≡ 0 → told ≡ told_length 0 → ReadsSummary summary status told old new
  summary_unread : (given : ToolFault) → IsSummaryRefused summary given → status ≡ fault_number given → told ≡ told_fault given → new ≡ old → ReadsSummary summary status told old new

-- whether the digest of a bucket of a validator's record, at the moment of digests, is another than the one in its place among them
abbrev pub differs_from : Kept → ℕ → SvidDigests → Bool
differs_from held bucket d = differs_at bucket d.moment (slice_index_or d.digests bucket []) held.state.uses

-- what comparing a bucket with the digests of a summary does: `more` says whether they differ
pub record TellsDiffers (bucket : ℕ) (asked : SvidDigests) (status : ℕ) (told : SvidTold) (old new : Kept) : Type 0 where
  pub done : status ≡ 0
  pub differs : told ≡ told_rows 0 (differs_from old bucket asked)
  pub kept : new ≡ old

-- What writing a bucket does: messages with its uses that expire after a moment are written, or have no room; or memory was refused. The
-- validator is unchanged.
pub data TellsBucket (bucket moment status : ℕ) (told : SvidTold) (old_out new_out : List ℕ) (old new : Kept) : Type 0 where
  bucket_told : (text : List ℕ) → AreWritten (uses_at bucket moment old.state.uses) text → IsPut text status old_out new_out → told ≡ told_length (length text)
      → new ≡ old → TellsBucket bucket moment status told old_out new_out old new
  bucket_untold : status ≡ 2 → told ≡ told_length 0 → new_out ≡ old_out → new ≡ old → TellsBucket bucket moment status told old_out new_out old new
