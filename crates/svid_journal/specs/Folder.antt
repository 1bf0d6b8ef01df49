-- A folder of a snapshot and journals: which call of the system is due in it, and what each result of a call does.
use Rattle.std.specs.Prelude.{◌==◌, ◌&&◌, ◌||◌, ℕ, ◌+◌, ◌<◌, ◌≤◌, ◌^◌, Bool, true, false, not, nat_lt, nat_le, if◌then◌else◌, List, [], ◌∷◌, Option, Some, None, Result, Ok, Err}
use Rattle.svid_journal.specs.declared.step.Step.{Step}
use Rattle.svid_journal.specs.declared.step.Step.TheVariants.{Idle, Starting, Entering, Creating, Naming, Writing, Ending, Syncing, Renaming, Publishing, Removing}
use Rattle.svid_journal.specs.declared.call.Call.{Call}
use Rattle.svid_journal.specs.declared.call.Call.TheVariants.{Nothing, CreateJournal, SyncFolder, WriteSnapshot, SyncSnapshot, RenameSnapshot, RemoveJournal}
use Rattle.svid_journal.specs.declared.fault.Fault.{Fault}
use Rattle.svid_journal.specs.declared.fault.Fault.TheVariants.{Unfit, Ended, NotGrowing, Busy, NothingDue, Flying, NotFlying, NotWriting, NoMark, TooLong, Full, TooShort}
use Rattle.svid_journal.specs.declared.folder.Folder.{Folder}
use Rattle.svid_journal.specs.declared.words.Words.{Words}
use Rattle.svid_journal.specs.declared.title.File.TheVariants.{Journal, Snapshot}
use Rattle.svid_journal.specs.declared.title.Title.{Title}
use Rattle.svid_journal.specs.Frames.{frame_len}

-- The steps.

-- no journal grows yet
abbrev pub is_starting : Step → Bool
is_starting Idle = false
is_starting Starting = true
is_starting Entering = true
is_starting Creating = false
is_starting Naming = false
is_starting Writing = false
is_starting Ending = false
is_starting Syncing = false
is_starting Renaming = false
is_starting Publishing = false
is_starting Removing = false

-- no call is due
abbrev pub is_idle : Step → Bool
is_idle Idle = true
is_idle Starting = false
is_idle Entering = false
is_idle Creating = false
is_idle Naming = false
is_idle Writing = false
is_idle Ending = false
is_idle Syncing = false
is_idle Renaming = false
is_idle Publishing = false
is_idle Removing = false

-- the next journal grows if the call that is due succeeds
abbrev pub is_naming : Step → Bool
is_naming Idle = false
is_naming Starting = false
is_naming Entering = false
is_naming Creating = false
is_naming Naming = true
is_naming Writing = false
is_naming Ending = false
is_naming Syncing = false
is_naming Renaming = false
is_naming Publishing = false
is_naming Removing = false

-- a snapshot is written, and has no mark yet
abbrev pub is_writing : Step → Bool
is_writing Idle = false
is_writing Starting = false
is_writing Entering = false
is_writing Creating = false
is_writing Naming = false
is_writing Writing = true
is_writing Ending = false
is_writing Syncing = false
is_writing Renaming = false
is_writing Publishing = false
is_writing Removing = false

-- the least difference between the number after the newest journal and that of the oldest
abbrev pub gap_of : Step → ℕ
gap_of Idle = 1
gap_of Starting = 0
gap_of Entering = 0
gap_of Creating = 1
gap_of Naming = 1
gap_of Writing = 2
gap_of Ending = 2
gap_of Syncing = 2
gap_of Renaming = 2
gap_of Publishing = 2
gap_of Removing = 2

-- the same in a folder: a start that ended may have made no journal
abbrev pub gap_in : Folder → ℕ
gap_in f = if f.ended then 0 else gap_of f.step

-- the number of a step
abbrev pub step_number : Step → ℕ
step_number Idle = 0
step_number Starting = 1
step_number Entering = 2
step_number Creating = 3
step_number Naming = 4
step_number Writing = 5
step_number Ending = 6
step_number Syncing = 7
step_number Renaming = 8
step_number Publishing = 9
step_number Removing = 10

-- the call that is due
abbrev pub due_at : Step → Folder → Call
due_at Idle f = Nothing
due_at Starting f = CreateJournal (f.newest + 1)
due_at Entering f = SyncFolder
due_at Creating f = CreateJournal (f.newest + 1)
due_at Naming f = SyncFolder
due_at Writing f = WriteSnapshot
due_at Ending f = WriteSnapshot
due_at Syncing f = SyncSnapshot
due_at Renaming f = RenameSnapshot
due_at Publishing f = SyncFolder
due_at Removing f = RemoveJournal f.oldest

-- Which calls are refused.

-- the numbers are those of a folder
abbrev pub is_fit : Folder → Bool
is_fit f =
    nat_lt f.newest (2 ^ 62) && nat_le f.oldest (2 ^ 62) && nat_le (f.oldest + gap_in f) (f.newest + 1) && nat_lt f.count (2 ^ 62) && nat_lt f.end (2 ^ 62) && nat_le f.flying (2 ^ 25) && nat_lt f.pieces (2 ^ 62)
    && (f.flying == 0 || not (is_starting f.step))

-- all numbers are far from 2^64
pub record IsSmall (f : Folder) : Type 0 where
  pub newest : f.newest < 2 ^ 62
  pub oldest : f.oldest ≤ 2 ^ 62
  pub count : f.count < 2 ^ 62
  pub end : f.end < 2 ^ 62
  pub flying : f.flying ≤ 2 ^ 25
  pub pieces : f.pieces < 2 ^ 62

-- a fault, and whether it holds
abbrev pub Row : Type 0
Row = Fault × Bool

-- the fault of the first row that holds
abbrev pub first_row : List Row → Option Fault
first_row [] = None
first_row (row ∷ rows) = if row.1 then Some row.0 else first_row rows

abbrev pub ready_rows : Folder → List Row → List Row
ready_rows f rows = (Unfit, not (is_fit f)) ∷ (Ended, f.ended) ∷ rows

-- why no call is taken
abbrev pub ready_fault : Folder → Option Fault
ready_fault f = first_row (ready_rows f [])

abbrev pub begin_fault : Folder → Option Fault
begin_fault f = first_row (ready_rows f ((Busy, not (is_idle f.step)) ∷ (Full, nat_le (2 ^ 62) (f.newest + 1)) ∷ []))

abbrev pub answer_fault : Folder → Bool → Option Fault
answer_fault f ok = first_row (ready_rows f ((NothingDue, is_idle f.step) ∷ (Flying, ok && is_naming f.step && nat_lt 0 f.flying) ∷ (NoMark, ok && is_writing f.step) ∷ []))

abbrev pub put_fault : Folder → ℕ → Option Fault
put_fault f len =
    first_row (ready_rows f ((NotGrowing, is_starting f.step) ∷ (Flying, nat_lt 0 f.flying) ∷ (TooLong, nat_le (2 ^ 24) len) ∷ (Full, nat_le (2 ^ 62) (f.count + 1)) ∷ (Full, nat_le (2 ^ 62) (f.end + 2 ^ 25)) ∷ []))

abbrev pub landed_fault : Folder → Option Fault
landed_fault f = first_row (ready_rows f ((NotFlying, f.flying == 0) ∷ []))

abbrev pub piece_fault : Folder → ℕ → Option Fault
piece_fault f len = first_row (ready_rows f ((NotWriting, not (is_writing f.step)) ∷ (TooLong, nat_le (2 ^ 24) len) ∷ (Full, nat_le (2 ^ 62) (f.pieces + 1)) ∷ []))

abbrev pub open_fault : ℕ → ℕ → Option Fault
open_fault oldest newest = first_row ((Full, nat_le (2 ^ 62) (newest + 1)) ∷ (Unfit, nat_lt (newest + 1) oldest) ∷ [])

-- why a frame with so many bytes of payload does not go into so much room: the fault that is due, or else the room is too short
abbrev pub room_fault : Option Fault → ℕ → ℕ → Option Fault
room_fault (Some fault) len room = Some fault
room_fault None len room = first_row ((TooShort (frame_len len), nat_lt room (frame_len len)) ∷ [])

-- the call that is due, or why there is none
abbrev pub due : Folder → Option Fault → Result Call Fault
due f None = Ok (due_at f.step f)
due f (Some fault) = Err fault

-- What the calls do.

-- a start, in a folder whose journals have these numbers
abbrev pub opened : ℕ → ℕ → Folder
opened oldest newest = record { step = Starting; oldest = oldest; newest = newest; ended = false; count = 0; end = 0; flying = 0; pieces = 0 }

-- the same at another step
abbrev pub at_step : Folder → Step → Folder
at_step f step = record { step = step; oldest = f.oldest; newest = f.newest; ended = f.ended; count = f.count; end = f.end; flying = f.flying; pieces = f.pieces }

-- a new journal and a new snapshot begin
abbrev pub begun : Folder → Folder
begun f = at_step f Creating

-- the content of the disk is unknown
abbrev pub ended : Folder → Folder
ended f = record { step = Idle; oldest = f.oldest; newest = f.newest; ended = true; count = f.count; end = f.end; flying = 0; pieces = f.pieces }

-- the next journal grows, and is empty
abbrev pub grown : Folder → Step → Folder
grown f step = record { step = step; oldest = f.oldest; newest = f.newest + 1; ended = f.ended; count = 0; end = 0; flying = 0; pieces = 0 }

-- the oldest journal was removed
abbrev pub removed : Folder → Folder
removed f =
    record { step = if nat_le f.newest (f.oldest + 1) then Idle else f.step; oldest = f.oldest + 1; newest = f.newest; ended = f.ended; count = f.count; end = f.end; flying = f.flying; pieces = f.pieces }

-- the folder after the call that was due succeeded
abbrev pub gone_on : Step → Folder → Folder
gone_on Idle f = f
gone_on Starting f = at_step f Entering
gone_on Entering f = grown f Idle
gone_on Creating f = at_step f Naming
gone_on Naming f = grown f Writing
gone_on Writing f = f
gone_on Ending f = at_step f Syncing
gone_on Syncing f = at_step f Renaming
gone_on Renaming f = at_step f Publishing
gone_on Publishing f = at_step f Removing
gone_on Removing f = removed f

-- the folder after it failed
abbrev pub given_up : Step → Folder → Folder
given_up Idle f = at_step f Idle
given_up Starting f = ended f
given_up Entering f = ended f
given_up Creating f = at_step f Idle
given_up Naming f = ended f
given_up Writing f = at_step f Idle
given_up Ending f = at_step f Idle
given_up Syncing f = at_step f Idle
given_up Renaming f = at_step f Idle
given_up Publishing f = ended f
given_up Removing f = at_step f Idle

abbrev pub answered : Folder → Bool → Folder
answered f ok = if ok then gone_on f.step f else given_up f.step f

-- a frame with a payload of so many bytes was handed out
abbrev pub flown : Folder → ℕ → Folder
flown f len = record { step = f.step; oldest = f.oldest; newest = f.newest; ended = f.ended; count = f.count; end = f.end; flying = frame_len len; pieces = f.pieces }

-- it was synced
abbrev pub landed : Folder → Folder
landed f = record { step = f.step; oldest = f.oldest; newest = f.newest; ended = f.ended; count = f.count + 1; end = f.end + f.flying; flying = 0; pieces = f.pieces }

-- it was not written
abbrev pub lost : Folder → Folder
lost f = record { step = f.step; oldest = f.oldest; newest = f.newest; ended = f.ended; count = f.count; end = f.end; flying = 0; pieces = f.pieces }

-- a piece of a snapshot was handed out, of so many bytes
abbrev pub pieced : Folder → ℕ → Folder
pieced f len =
    record { step = if len == 0 then Ending else f.step; oldest = f.oldest; newest = f.newest; ended = f.ended; count = f.count; end = f.end; flying = f.flying; pieces = f.pieces + 1 }

-- the titles of the files of a folder
abbrev pub journal_title : Folder → List ℕ → Title
journal_title f folder = record { file = Journal f.newest; folder = folder }

abbrev pub snapshot_title : List ℕ → Title
snapshot_title folder = record { file = Snapshot; folder = folder }

-- the numbers of a folder as callers keep them
abbrev pub bool_number : Bool → ℕ
bool_number false = 0
bool_number true = 1

abbrev pub words_of : Folder → Words
words_of f = record { step = step_number f.step; oldest = f.oldest; newest = f.newest; ended = bool_number f.ended; count = f.count; end = f.end; flying = f.flying; pieces = f.pieces }
