-- The text of a batch.
use Rattle.std.specs.Prelude.{ℕ, List, [], ◌∷◌, ◌++◌, ◌≤◌, length}
use Rattle.std.specs.Int.{to_be_bytes, w32, w64}
use Rattle.std.specs.List.{AllByRecursion, flat_map}
use Rattle.svid_replay.specs.Batches.{BatchData, IsBatch}
use Rattle.svid_wire.specs.Versions.{CanTell, magic_of, most_of, use_text}
use Rattle.svid_wire.specs.declared.version.Version.{Version}
use Rattle.svid_wire.specs.declared.version.Version.TheVariants.{Two}

-- the byte of a batch that follows the magic of its version
abbrev pub batch_kind : ℕ
batch_kind = 1

-- the moment and the number of uses, each with its most significant byte first
unfoldable pub moment_and_count_text : ℕ → ℕ → List ℕ
moment_and_count_text moment count = to_be_bytes w64 moment ++ to_be_bytes w32 count

-- the bytes before the first use
abbrev pub head_text : Version → ℕ → ℕ → List ℕ
head_text v moment count = magic_of v ++ batch_kind ∷ [] ++ moment_and_count_text moment count

-- the head, and then the bytes of each use
abbrev pub batch_text_in : Version → BatchData → List ℕ
batch_text_in v b = head_text v b.moment (length b.uses) ++ flat_map (use_text v) b.uses

-- a batch is written in version 2
abbrev pub batch_text : BatchData → List ℕ
batch_text b = batch_text_in Two b

-- a batch that has a text in this version
pub record IsBatchIn (v : Version) (b : BatchData) : Type 0 where
  pub batch : IsBatch b
  pub few : length b.uses ≤ most_of v
  pub tells : AllByRecursion (CanTell v) b.uses
