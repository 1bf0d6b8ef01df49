-- What writing a record piece by piece does.
use Rattle.std.specs.Prelude.{◌≡◌, ◌≢◌, ◌==◌, ◌-◌, ◌/◌, ℕ, not, min, if◌then◌else◌, ◌<◌, ◌≤◌, List, length, Option, None, Some}
use Rattle.std.specs.List.{slice_get}
use Rattle.svid_replay.specs.declared.token_use.Use.{Use}
use Rattle.svid_wire.specs.BatchText.{batch_text}
use Rattle.svid_replay.specs.Batches.{BatchData}
use Rattle.svid_replay.specs.Walks.{uses_behind}
use Rattle.svid_check.specs.Saves.{piece_of}
use Rattle.svid_c.specs.Live.{Kept}
use Rattle.svid_c.specs.Status.{flag, told_length}
use Rattle.svid_c.specs.Written.{IsPut}
use Rattle.svid_c.specs.declared.validator_parts.SvidPart.{SvidPart}
use Rattle.svid_c.specs.declared.told.SvidTold.{SvidTold}

-- the use that was written last, where one was
abbrev pub after_of : SvidPart → Option Use
after_of part = if part.begun == 0 then None else Some (record { exp = part.exp; key = part.key; validator_id = part.validator_id; at = part.at; withdrawn = not (part.withdrawn == 0) })

-- how many uses have room in so many bytes: a batch has 17 bytes and 65 for each use, and at most 65,536 uses
abbrev pub uses_in_room : ℕ → ℕ
uses_in_room len = min ((len - 17) / 65) 65536

-- behind this use, where there is one
abbrev pub behind : SvidPart → Option Use → SvidPart
behind part None = record { begun = part.begun; done = 0; withdrawn = part.withdrawn; exp = part.exp; at = part.at; key = part.key; validator_id = part.validator_id }
behind part (Some used) = record { begun = 1; done = 0; withdrawn = flag used.withdrawn; exp = used.exp; at = used.at; key = used.key; validator_id = used.validator_id }

-- the same, and done where the record has no use that is greater than what is written
abbrev pub or_done : Kept → SvidPart → SvidPart
or_done held part = record { begun = part.begun; done = flag (length (uses_behind held.state.uses (after_of part)) == 0); withdrawn = part.withdrawn; exp = part.exp; at = part.at; key = part.key; validator_id = part.validator_id }

-- behind the last of these uses, and done where that is the last one of the record
abbrev pub moved : Kept → SvidPart → List Use → SvidPart
moved held part uses = or_done held (behind part (slice_get uses (length uses - 1)))

-- the piece of the record that has room in so many bytes, behind what is written
abbrev pub next_piece : Kept → SvidPart → ℕ → BatchData
next_piece held part len = piece_of held.state (after_of part) (uses_in_room len)

-- There is too little room for one use, and the answer says so; or there is room, and the next piece is written, and the part advances
-- past it; or memory was refused. The validator is unchanged.
pub data Saves (status : ℕ) (told : SvidTold) (old_out new_out : List ℕ) (old_part new_part : SvidPart) (old new : Kept) : Type 0 where
  no_room : length old_out < 82 → status ≡ 1 → told ≡ told_length 82 → new_out ≡ old_out → new_part ≡ old_part → new ≡ old → Saves status told old_out new_out old_part new_part old new
  saved : (text : List ℕ) → 82 ≤ length old_out → text ≡ batch_text (next_piece old old_part (length old_out)) → IsPut text status old_out new_out → told ≡ told_length (length text)
      → (status ≡ 0 → new_part ≡ moved old old_part (next_piece old old_part (length old_out)).uses)
      → (status ≢ 0 → new_part ≡ old_part) → new ≡ old → Saves status told old_out new_out old_part new_part old new
  unsaved : 82 ≤ length old_out → status ≡ 2 → told ≡ told_length 0 → new_out ≡ old_out → new_part ≡ old_part → new ≡ old → Saves status told old_out new_out old_part new_part old new
