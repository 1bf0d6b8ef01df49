-- A summary and an answer that are made bucket by bucket, of records that change in between.
use Rattle.std.specs.Prelude.{◌≢◌, ◌⊎◌, ℕ, ◌<◌, IsTrue}
use Rattle.svid_replay.specs.declared.token_use.Use.{Use}
use Rattle.svid_replay.specs.Buckets.{bucket, bucket_digest, bucket_of}
use Rattle.svid_replay.specs.Records.{State}
use Rattle.svid_replay.specs.Sets.{holds}
use Rattle.svid_replay.specs.Use.{IsUse}
use Rattle.svid_replay.specs.Uses.{Uses, live}
use Rattle.svid_check.specs.Headline.{IsClash}
use Rattle.svid_check.specs.Saves.{IsLater}

-- the uses of a set have the lengths and ranges of their fields
abbrev pub AreInRange : Uses → Type 0
AreInRange s = (u : Use) → IsTrue (holds s u) → IsUse u

-- Of one bucket: the record that was asked about when its digest was made, that of the answerer when it compared this with its own, and that of
-- the answerer when it wrote its uses of the bucket.
pub record Turn : Type 0 where
  pub summed : State
  pub compared : State
  pub written : State

-- a turn of a walk over an answerer's record that was `first` when the walk began, for an asker whose record is now `last`
pub record IsTurn (first last : State) (t : Turn) : Type 0 where
  pub begun : IsLater first t.compared
  pub written : IsLater t.compared t.written
  pub now : IsLater t.summed last
  pub asked : AreInRange t.summed.uses
  pub answered : AreInRange t.compared.uses

-- the digests of the use's bucket at a moment differ, and what was written of the bucket has the use
pub record IsWritten (moment : ℕ) (t : Turn) (u : Use) : Type 0 where
  pub differ : bucket_digest (bucket_of u) (live t.summed.uses moment) ≢ bucket_digest (bucket_of u) (live t.compared.uses moment)
  pub told : IsTrue (holds (bucket (bucket_of u) (live t.written.uses moment)) u)

-- Each use that the answerer had when the walk began, and that is live at the moment of the summary and in each of these records, is written, or
-- the asker has it; or else two texts of its bucket have one digest.
abbrev pub WalksTellAll : Type 0
WalksTellAll = (first last : State) (moment : ℕ) (turns : ℕ → Turn) (u : Use)
    → let t = turns (bucket_of u) in
    IsTurn first last t → IsTrue (holds first.uses u) → moment < u.exp → t.compared.moment < u.exp → t.written.moment < u.exp → last.moment < u.exp
    → IsWritten moment t u ⊎ (IsTrue (holds last.uses u) ⊎ IsClash (live t.summed.uses moment) (live t.compared.uses moment))
