-- What a call does with a text, and how it answers why there is none.
use Rattle.std.specs.Prelude.{◌≡◌, ℕ, ◌<◌, ◌≤◌, List, ◌++◌, length, drop}
use Rattle.svid_share.specs.declared.tool_fault.ToolFault.{ToolFault}
use Rattle.svid_c.specs.declared.told.SvidTold.{SvidTold}
use Rattle.svid_c.specs.Status.{fault_number, told_fault, told_length}

-- the text is at the start of the room, and the rest of the room is unchanged
abbrev pub HasFirst : List ℕ → List ℕ → List ℕ → Type 0
HasFirst text old new = new ≡ text ++ drop (length text) old

-- the text was written to the start of the room that the caller lent, and the rest is unchanged; or it has no room, and all
-- is unchanged
pub data IsPut (text : List ℕ) (status : ℕ) (old new : List ℕ) : Type 0 where
  put : status ≡ 0 → length text ≤ length old → HasFirst text old new → IsPut text status old new
  too_short : status ≡ 1 → length old < length text → new ≡ old → IsPut text status old new

-- a text that is due was written, or has no room, and the answer is its length; or there is none, the answer is why, and all
-- is unchanged
pub data Answers (IsDue : List ℕ → Type 0) (IsFault : ToolFault → Type 0) (status : ℕ) (told : SvidTold) (old new : List ℕ) : Type 0 where
  written : (text : List ℕ) → IsDue text → IsPut text status old new → told ≡ told_length (length text) → Answers IsDue IsFault status told old new
  refused : (fault : ToolFault) → IsFault fault → status ≡ fault_number fault → told ≡ told_fault fault → new ≡ old → Answers IsDue IsFault status told old new
