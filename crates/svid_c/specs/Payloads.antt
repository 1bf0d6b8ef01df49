-- What the calls on the payloads of a state folder do.
use Rattle.std.specs.Prelude.{◌≡◌, ℕ, List, ◌++◌, drop}
use Rattle.svid_journal.specs.declared.log_position.LogPosition.{LogPosition}
use Rattle.svid_journal.specs.Payloads.{BeginsWithNoPosition, position_text}
use Rattle.svid_c.specs.declared.journal_bears.SvidBears.{SvidBears}
use Rattle.svid_c.specs.declared.validator_mark.SvidMark.{SvidMark}

-- the position of a member, from its mark as C has it
abbrev pub position_of : SvidMark → LogPosition
position_of mark = record { passed = mark.passed; begun = mark.begun; deaf = mark.deaf }

-- and back
abbrev pub mark_of : LogPosition → SvidMark
mark_of position = record { passed = position.passed; begun = position.begun; deaf = position.deaf }

-- no position
abbrev pub no_mark : SvidMark
no_mark = record { passed = 0; begun = 0; deaf = 0 }

-- What a payload bears: a position, and messages behind its 28 bytes; or no position, and messages from its first byte on.
pub data Bears (payload : List ℕ) (told : SvidBears) : Type 0 where
  bears_position : (position : LogPosition) → payload ≡ position_text position ++ drop 28 payload → told ≡ record { mark = mark_of position; marked = 1; messages = 28 } → Bears payload told
  bears_none : BeginsWithNoPosition payload → told ≡ record { mark = no_mark; marked = 0; messages = 0 } → Bears payload told
