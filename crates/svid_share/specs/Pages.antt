-- Text that goes out through a buffer of fixed size, the room.
use Rattle.std.specs.Prelude.{◌≡◌, ℕ, ◌++◌, List, take}
use Rattle.std.specs.List.{flat_map}
use Rattle.svid_replay.specs.Batches.{BatchData}
use Rattle.svid_replay.specs.Use.{text_of}
use Rattle.svid_replay.specs.declared.token_use.Use.{Use}
use Rattle.svid_wire.specs.Streams.{Taken, TookAll}

-- what the sink took and what is in the room now are together what was in the room before, followed by the text
pub record Passes (sink : Taken) (before text after : List ℕ) : Type 0 where
  pub went : List ℕ
  pub all : TookAll sink went
  pub is : went ++ after ≡ before ++ text

-- the texts of so many of the first uses
abbrev pub next_texts : List Use → ℕ → List ℕ
next_texts us count = flat_map text_of (take count us)

-- the batch of so many of the first uses
abbrev pub next_batch : ℕ → List Use → ℕ → BatchData
next_batch moment us count = record { moment = moment; uses = take count us }
