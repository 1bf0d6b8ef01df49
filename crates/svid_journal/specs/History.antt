-- The history of a folder: appends, switches, failures, crashes and starts. The program does what `Folder` says, the disk what
-- `Disk` says.
use Rattle.std.specs.Prelude.{◌≡◌, ◌⊎◌, ℕ, ◌+◌, ◌/◌, ◌%◌, ◌≤◌, nat_lt, not, Bool, true, false, if◌then◌else◌, List, [], ◌∷◌, ◌++◌, length, Option, Some, None}
use Rattle.std.specs.List.{list_any}
use Rattle.svid_journal.specs.declared.step.Step.{Step}
use Rattle.svid_journal.specs.declared.step.Step.TheVariants.{Idle, Starting, Entering, Creating, Naming, Writing, Ending, Syncing, Renaming, Publishing, Removing}
use Rattle.svid_journal.specs.declared.call.Call.{Call}
use Rattle.svid_journal.specs.declared.call.Call.TheVariants.{Nothing, CreateJournal, SyncFolder, WriteSnapshot, SyncSnapshot, RenameSnapshot, RemoveJournal}
use Rattle.svid_journal.specs.declared.fault.Fault.{Fault}
use Rattle.svid_journal.specs.declared.fault.Fault.TheVariants.{NotGrowing, Busy}
use Rattle.svid_journal.specs.declared.folder.Folder.{Folder}
use Rattle.svid_journal.specs.declared.title.File.TheVariants.{Journal, Snapshot}
use Rattle.svid_journal.specs.Titles.{bytes_of}
use Rattle.svid_journal.specs.Frames.{sealed, frame_of, frames_of, IsReading}
use Rattle.svid_journal.specs.Folder.{ready_rows, first_row, is_starting, begin_fault, answer_fault, put_fault, landed_fault, piece_fault, open_fault, opened, begun, answered, given_up, due_at, flown, landed, lost, ended, pieced}
use Rattle.svid_journal.specs.Disk.{write_id, sync_id, rename_id, Disk, Outcome, IsOutcome, as_seen, empty_file, settled, put, create_journal, write_journal, sync_journal, remove_journal, write_piece, sync_beside, rename_beside, sync_folder, after_crash}

-- the titles of a folder's files, and the content of the file with its ID
pub record Titles : Type 0 where
  pub id : List ℕ
  pub journal : ℕ → List ℕ
  pub snapshot : List ℕ

abbrev pub hex_digit : ℕ → ℕ
hex_digit n = if nat_lt n 10 then 48 + n else 87 + n

-- 32 hexadecimal digits, and 0A
abbrev pub id_text : List ℕ → List ℕ
id_text [] = 10 ∷ []
id_text (b ∷ bytes) = hex_digit (b / 16) ∷ hex_digit (b % 16) ∷ id_text bytes

-- the titles that the program gives
abbrev pub titles_of : List ℕ → Titles
titles_of folder = record { id = id_text folder; journal = λ k. bytes_of (record { file = Journal k; folder = folder }); snapshot = bytes_of (record { file = Snapshot; folder = folder }) }

pub record World : Type 0 where
  pub folder : Folder
  pub disk : Disk
  -- the journal that grows, or the last one that did; 0 before the first
  pub home : ℕ
  -- the payloads of that journal that were acknowledged
  pub log : List (List ℕ)
  -- the acknowledged payloads of each journal, since it was made
  pub logs : ℕ → List (List ℕ)
  -- a payload that was written after them, and not synced
  pub flying : List (List ℕ)
  -- the payloads of a snapshot that were written so far
  pub parts : List (List ℕ)
  -- all payloads that were ever acknowledged
  pub acknowledged : List (List ℕ)
  -- the content of the record in memory, as payloads
  pub memory : List (List ℕ)
  -- its content when the journal that grows began
  pub noted : List (List ℕ)
  -- all texts that were ever sealed in frames
  pub texts : List (List ℕ)

-- what may happen next
pub data Event : Type 0 where
  -- a new journal and a new snapshot begin
  Begin : Event
  -- the call that is due returns
  Answer : (ok : Bool) → Event
  -- a piece of a snapshot is written; where that fails, this landed, and the call that is due fails
  Piece : (payload : List ℕ) (ok : Bool) (landed : List ℕ) → Event
  -- the record takes a payload, and it is appended to the journal that grows; where that fails, this landed
  Put : (payload : List ℕ) (ok : Bool) (landed : List ℕ) → Event
  -- the journal that grows is made longer, from this offset on; this landed
  Grow : (offset : ℕ) (landed : List ℕ) → Event
  -- the journal that grows is synced after a frame
  Sync : (ok : Bool) → Event
  -- Where no program has the folder open, the file with the ID is made: a text is written beside it; if that fails, this landed.
  -- Then that file is synced, then renamed, and then the folder is synced
  WriteId : (text : List ℕ) (ok : Bool) (landed : List ℕ) → Event
  SyncId : (ok : Bool) → Event
  RenameId : Event
  NameId : (ok : Bool) → Event
  -- a crash, which leaves this
  Crash : (left : Outcome) → Event
  -- a start: a new record takes what is read of the folder, whose journals have these numbers
  Start : (oldest newest : ℕ) (read : List (List ℕ)) → Event

-- the disk after a call
abbrev pub called : Call → Bool → Disk → Disk
called Nothing ok d = d
called (CreateJournal k) ok d = if ok then create_journal k d else d
called SyncFolder ok d = sync_folder ok d
called WriteSnapshot ok d = d
called SyncSnapshot ok d = sync_beside ok d
called RenameSnapshot ok d = if ok then rename_beside d else d
called (RemoveJournal k) ok d = if ok then remove_journal k d else d

-- a new journal has no payloads
abbrev pub logs_of : Call → Bool → (ℕ → List (List ℕ)) → ℕ → List (List ℕ)
logs_of (CreateJournal k) ok logs = if ok then put logs k [] else logs
logs_of Nothing ok logs = logs
logs_of SyncFolder ok logs = logs
logs_of WriteSnapshot ok logs = logs
logs_of SyncSnapshot ok logs = logs
logs_of RenameSnapshot ok logs = logs
logs_of (RemoveJournal k) ok logs = logs

-- the next journal grows after a step that succeeds
abbrev pub grows_next : Step → Bool → Bool
grows_next Entering ok = ok
grows_next Naming ok = ok
grows_next Idle ok = false
grows_next Starting ok = false
grows_next Creating ok = false
grows_next Writing ok = false
grows_next Ending ok = false
grows_next Syncing ok = false
grows_next Renaming ok = false
grows_next Publishing ok = false
grows_next Removing ok = false

-- the call that is due returned
abbrev pub after_answer : World → Bool → World
after_answer w ok =
    let next = grows_next w.folder.step ok in
    record {
      folder = answered w.folder ok;
      disk = called (due_at w.folder.step w.folder) ok w.disk;
      home = if next then w.folder.newest + 1 else w.home;
      log = if next then [] else w.log;
      logs = logs_of (due_at w.folder.step w.folder) ok w.logs;
      flying = if next then [] else w.flying;
      parts = if next then [] else w.parts;
      acknowledged = w.acknowledged;
      memory = w.memory;
      noted = if next then w.memory else w.noted;
      texts = w.texts;
    }

-- a piece of a snapshot was handed out, and its write returned
abbrev pub after_piece : Titles → World → List ℕ → Bool → List ℕ → World
after_piece t w payload ok landed =
    record {
      folder = if ok then pieced w.folder (length payload) else given_up w.folder.step w.folder;
      disk = write_piece w.folder.pieces (length (frames_of t.snapshot 1 w.parts)) (if ok then frame_of t.snapshot (1 + w.folder.pieces) payload else landed) w.disk;
      home = w.home;
      log = w.log;
      logs = w.logs;
      flying = w.flying;
      parts = w.parts ++ payload ∷ [];
      acknowledged = w.acknowledged;
      memory = w.memory;
      noted = w.noted;
      texts = sealed 2 t.snapshot (1 + w.folder.pieces) payload ∷ w.texts;
    }

abbrev pub after_put : Titles → World → List ℕ → Bool → List ℕ → World
after_put t w payload ok landed =
    let f = w.folder in
    record {
      folder = if ok then flown f (length payload) else lost (flown f (length payload));
      disk = write_journal f.newest f.end (if ok then frame_of (t.journal f.newest) (1 + f.count) payload else landed) w.disk;
      home = w.home;
      log = w.log;
      logs = w.logs;
      flying = if ok then payload ∷ [] else [];
      parts = w.parts;
      acknowledged = w.acknowledged;
      memory = w.memory ++ payload ∷ [];
      noted = w.noted;
      texts = sealed 2 (t.journal f.newest) (1 + f.count) payload ∷ w.texts;
    }

abbrev pub after_grow : World → ℕ → List ℕ → World
after_grow w at landed =
    record { folder = w.folder; disk = write_journal w.folder.newest at landed w.disk; home = w.home; log = w.log; logs = w.logs; flying = w.flying; parts = w.parts; acknowledged = w.acknowledged; memory = w.memory; noted = w.noted; texts = w.texts }

-- what is synced is acknowledged
abbrev pub after_sync : World → Bool → World
after_sync w ok =
    record {
      folder = if ok then landed w.folder else ended w.folder;
      disk = sync_journal w.folder.newest ok w.disk;
      home = w.home;
      log = if ok then w.log ++ w.flying else w.log;
      logs = if ok then put w.logs w.home (w.log ++ w.flying) else w.logs;
      flying = [];
      parts = w.parts;
      acknowledged = if ok then w.acknowledged ++ w.flying else w.acknowledged;
      memory = w.memory;
      noted = w.noted;
      texts = w.texts;
    }

-- the program has ended, and with it the record
abbrev pub after_end : World → Folder → Disk → List (List ℕ) → World
after_end w folder disk memory =
    record { folder = folder; disk = disk; home = w.home; log = w.log; logs = w.logs; flying = []; parts = []; acknowledged = w.acknowledged; memory = memory; noted = []; texts = w.texts }

-- nothing happens where the folder refuses the call
abbrev pub unless : Option Fault → World → World → World
unless None after w = after
unless (Some fault) after w = w

-- a journal is made longer only where one grows
abbrev pub grow_fault : Folder → Option Fault
grow_fault f = first_row (ready_rows f ((NotGrowing, is_starting f.step) ∷ []))

-- no program has the folder open
abbrev pub id_fault : Folder → Option Fault
id_fault f = first_row ((Busy, not f.ended) ∷ [])

-- the same with another disk
abbrev pub with_disk : World → Disk → World
with_disk w disk =
    record { folder = w.folder; disk = disk; home = w.home; log = w.log; logs = w.logs; flying = w.flying; parts = w.parts; acknowledged = w.acknowledged; memory = w.memory; noted = w.noted; texts = w.texts }

-- the folder after an event
abbrev pub happens : Titles → World → Event → World
happens t w Begin = unless (begin_fault w.folder) (record { folder = begun w.folder; disk = w.disk; home = w.home; log = w.log; logs = w.logs; flying = w.flying; parts = w.parts; acknowledged = w.acknowledged; memory = w.memory; noted = w.noted; texts = w.texts }) w
happens t w (Answer ok) = unless (answer_fault w.folder ok) (after_answer w ok) w
happens t w (Piece payload ok landed) = unless (piece_fault w.folder (length payload)) (after_piece t w payload ok landed) w
happens t w (Put payload ok landed) = unless (put_fault w.folder (length payload)) (after_put t w payload ok landed) w
happens t w (Grow at landed) = unless (grow_fault w.folder) (after_grow w at landed) w
happens t w (Sync ok) = unless (landed_fault w.folder) (after_sync w ok) w
happens t w (WriteId text ok landed) = unless (id_fault w.folder) (with_disk w (write_id (if ok then text else landed) w.disk)) w
happens t w (SyncId ok) = unless (id_fault w.folder) (with_disk w (sync_id ok w.disk)) w
happens t w RenameId = unless (id_fault w.folder) (with_disk w (rename_id w.disk)) w
happens t w (NameId ok) = unless (id_fault w.folder) (with_disk w (sync_folder ok w.disk)) w
happens t w (Crash left) = after_end w (ended w.folder) (after_crash left) []
happens t w (Start oldest newest read) = after_end w (opened oldest newest) w.disk read

-- the folder after a whole history
abbrev pub history : Titles → List Event → World → World
history t [] w = w
history t (e ∷ events) w = history t events (happens t w e)

-- a disk with an empty folder
abbrev pub empty_disk : Disk
empty_disk = record { journals = λ k. record { file = empty_file; here = settled false }; snapshot = settled None; beside = empty_file; id = record { name = settled None; beside = empty_file } }

-- A new folder: it is empty, and no program runs. The first start makes its first journal.
abbrev pub fresh : World
fresh =
    record {
      folder = ended (opened 1 0);
      disk = empty_disk;
      home = 0;
      log = [];
      logs = λ k. [];
      flying = [];
      parts = [];
      acknowledged = [];
      memory = [];
      noted = [];
      texts = [];
    }

-- The view of one use: `has` says whether a payload has it. The use has not expired, so a record that has it keeps it.

-- the use is in whatever is read of these bytes
abbrev pub IsReadIn : (List ℕ → Bool) → List ℕ → List ℕ → Type 0
IsReadIn has title bytes = (payloads : List (List ℕ)) (rest : List ℕ) → IsReading title bytes payloads rest → list_any has payloads ≡ true

-- the use is read from what is left: in the snapshot, or in a journal that is there
abbrev pub IsRead : (List ℕ → Bool) → Titles → Outcome → Type 0
IsRead has t o = ((bytes : List ℕ) × (o.snapshot ≡ Some bytes) × IsReadIn has t.snapshot bytes) ⊎ ((k : ℕ) × (o.here k ≡ true) × IsReadIn has (t.journal k) (o.bytes k))

-- What the program's callers and the system ensure. A mark ends a snapshot only if its pieces have the use where the record had
-- it when the journal that grows began. A journal is made longer only after what was written. A crash leaves what it may. At a
-- start the numbers are those of the journals that are there, and the record takes the use if it is read of the folder.
abbrev pub IsAllowed : (List ℕ → Bool) → Titles → World → Event → Type 0
IsAllowed has t w Begin = Unit {0}
IsAllowed has t w (Answer ok) = Unit {0}
IsAllowed has t w (Piece payload ok landed) = length payload ≡ 0 → list_any has w.noted ≡ true → list_any has w.parts ≡ true
IsAllowed has t w (Put payload ok landed) = Unit {0}
IsAllowed has t w (Grow at landed) = length (frames_of (t.journal w.folder.newest) 1 (w.log ++ w.flying)) ≤ at
IsAllowed has t w (Sync ok) = Unit {0}
IsAllowed has t w (WriteId text ok landed) = Unit {0}
IsAllowed has t w (SyncId ok) = Unit {0}
IsAllowed has t w RenameId = Unit {0}
IsAllowed has t w (NameId ok) = Unit {0}
IsAllowed has t w (Crash left) = IsOutcome w.disk left
IsAllowed has t w (Start oldest newest read) = (open_fault oldest newest ≡ None) × ((k : ℕ) → (w.disk.journals k).here.now ≡ true → k ≤ newest) × (IsRead has t (as_seen w.disk) → list_any has read ≡ true)

abbrev pub AreAllowed : (List ℕ → Bool) → Titles → List Event → World → Type 0
AreAllowed has t [] w = Unit {0}
AreAllowed has t (e ∷ events) w = IsAllowed has t w e × AreAllowed has t events (happens t w e)

-- What the code that makes the file with the ID ensures. A file is renamed to it only if it is whole on the disk, and only if
-- there is none, or one with the same text. A start reads the ID first. No sync of the folder has failed since that file was
-- made, unless a crash came after it.
abbrev pub IsIdAllowed : Titles → World → Event → Type 0
IsIdAllowed t w Begin = Unit {0}
IsIdAllowed t w (Answer ok) = Unit {0}
IsIdAllowed t w (Piece payload ok landed) = Unit {0}
IsIdAllowed t w (Put payload ok landed) = Unit {0}
IsIdAllowed t w (Grow at landed) = Unit {0}
IsIdAllowed t w (Sync ok) = Unit {0}
IsIdAllowed t w (WriteId text ok landed) = Unit {0}
IsIdAllowed t w (SyncId ok) = Unit {0}
IsIdAllowed t w RenameId = (w.disk.id.beside.whole ≡ true) × (w.disk.id.beside.kept ≡ w.disk.id.beside.seen) × (((as_seen w.disk).id ≡ None) ⊎ ((as_seen w.disk).id ≡ Some w.disk.id.beside.seen))
IsIdAllowed t w (NameId ok) = Unit {0}
IsIdAllowed t w (Crash left) = IsOutcome w.disk left
IsIdAllowed t w (Start oldest newest read) = ((as_seen w.disk).id ≡ Some t.id) × (w.disk.id.name.stuck ≡ false)

abbrev pub IsIdKept : Titles → List Event → World → Type 0
IsIdKept t [] w = Unit {0}
IsIdKept t (e ∷ events) w = IsIdAllowed t w e × IsIdKept t events (happens t w e)
