-- What the calls on the entries of messages do.
use Rattle.std.specs.Prelude.{◌≡◌, ◌==◌, ℕ, ◌<◌, ◌≤◌, not, List, ◌++◌, length, drop, map}
use Rattle.svid_replay.specs.declared.token_use.Use.{Use}
use Rattle.svid_replay.specs.Batches.{BatchData}
use Rattle.svid_log.specs.Values.{IsValue}
use Rattle.svid_share.specs.Inputs.{most_bytes}
use Rattle.svid_share.specs.declared.tool_fault.ToolFault.{ToolFault}
use Rattle.svid_uses.specs.Batched.{AreBatched}
use Rattle.svid_uses.specs.Texts.{texts_of}
use Rattle.svid_uses.specs.Time.{IsUsesFault}
use Rattle.svid_uses.specs.declared.uses_fault.UsesFault.{UsesFault}
use Rattle.svid_uses.specs.declared.uses_fault.UsesFault.TheVariants.{Expired, OutOfMemory}
use Rattle.svid_c.specs.Inputs.{IsRefused}
use Rattle.svid_c.specs.Status.{fault_number, flag, told_fault, told_length}
use Rattle.svid_c.specs.Written.{IsPut}
use Rattle.svid_c.specs.declared.entries.SvidEntry.{SvidEntry}
use Rattle.svid_c.specs.declared.told.SvidTold.{SvidTold}

-- the use that an entry is; it is a withdrawal unless C says 0
abbrev pub use_of : SvidEntry → Use
use_of entry = record { exp = entry.exp; key = entry.key; validator_id = entry.validator_id; at = entry.at; withdrawn = not (entry.withdrawn == 0) }

-- the uses that entries are, in their order
abbrev pub uses_of : List SvidEntry → List Use
uses_of entries = map use_of entries

-- a use as C sees it
abbrev pub entry_seen : Use → SvidEntry
entry_seen used = record { withdrawn = flag used.withdrawn; exp = used.exp; at = used.at; key = used.key; validator_id = used.validator_id }

-- bytes are messages, no more of them than an input may have, and these are the uses of their batches, in their order
pub record AreRead (messages : List ℕ) (uses : List Use) : Type 0 where
  pub value : IsValue messages uses
  pub within : length messages ≤ most_bytes

-- What reading entries does: the uses of messages are written to the start of the room, in their order; or they have no room, and the answer
-- is their number; or the messages are refused.
pub data ReadsEntries (messages : List ℕ) (status : ℕ) (told : SvidTold) (old_out new_out : List SvidEntry) : Type 0 where
  entries_put : (uses : List Use) → AreRead messages uses → length uses ≤ length old_out → status ≡ 0 → told ≡ told_length (length uses)
      → new_out ≡ map entry_seen uses ++ drop (length uses) old_out → ReadsEntries messages status told old_out new_out
  entries_long : (uses : List Use) → AreRead messages uses → length old_out < length uses → status ≡ 1 → told ≡ told_length (length uses)
      → new_out ≡ old_out → ReadsEntries messages status told old_out new_out
  no_entries : (given : ToolFault) → IsRefused 1 messages given → status ≡ fault_number given → told ≡ told_fault given
      → new_out ≡ old_out → ReadsEntries messages status told old_out new_out

-- why uses are no messages
abbrev pub uses_number : UsesFault → ℕ
uses_number (Expired index) = 15
uses_number OutOfMemory = 2

-- the answer for that: the number of the use, from 0
abbrev pub told_uses : UsesFault → SvidTold
told_uses (Expired index) = record { len = 0; input = 0; message = 0; offset = index; more = 0 }
told_uses OutOfMemory = told_length 0

-- the text of batches that tell these uses
pub record AreWritten (uses : List Use) (text : List ℕ) : Type 0 where
  pub batches : List BatchData
  pub batched : AreBatched uses batches
  pub is : text ≡ texts_of batches

-- what writing entries does: the messages that tell them are put, or have no room; or no message can tell one of them, or memory was refused
pub data WritesEntries (entries : List SvidEntry) (status : ℕ) (told : SvidTold) (old_out new_out : List ℕ) : Type 0 where
  entries_told : (text : List ℕ) → AreWritten (uses_of entries) text → IsPut text status old_out new_out → told ≡ told_length (length text)
      → WritesEntries entries status told old_out new_out
  entries_refused : (given : UsesFault) → IsUsesFault (uses_of entries) given → status ≡ uses_number given → told ≡ told_uses given
      → new_out ≡ old_out → WritesEntries entries status told old_out new_out
