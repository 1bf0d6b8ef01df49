-- What the calls on a state folder answer, and what they do to its numbers.
use Rattle.std.specs.Prelude.{◌≡◌, ◌==◌, ℕ, ◌+◌, not, if◌then◌else◌, List, ◌++◌, length, take, drop, Option, Some, None}
use Rattle.svid_journal.specs.declared.call.Call.{Call}
use Rattle.svid_journal.specs.declared.call.Call.TheVariants as call
use Rattle.svid_journal.specs.declared.fault.Fault.{Fault}
use Rattle.svid_journal.specs.declared.fault.Fault.TheVariants as fault
use Rattle.svid_journal.specs.declared.folder.Folder.{Folder}
use Rattle.svid_journal.specs.declared.words.Words.{Words}
use Rattle.svid_journal.specs.declared.title.File.{File}
use Rattle.svid_journal.specs.declared.title.File.TheVariants.{Journal, Snapshot}
use Rattle.svid_journal.specs.declared.title.Title.{Title}
use Rattle.svid_journal.specs.declared.reader.Reader.{Reader}
use Rattle.svid_journal.specs.declared.reader.Next.{Next}
use Rattle.svid_journal.specs.declared.reader.Next.TheVariants as next
use Rattle.svid_journal.specs.Folder.{due_at, ready_fault, room_fault, words_of}
use Rattle.svid_journal.specs.Frames.{frame_len, frame_of}
use Rattle.svid_journal.specs.Reading.{IsNext}
use Rattle.svid_journal.specs.Titles.{bytes_of}
use Rattle.svid_c.specs.Status.{flag, told_length}
use Rattle.svid_c.specs.declared.journal.SvidFolder.{SvidFolder}
use Rattle.svid_c.specs.declared.journal_due.SvidDue.{SvidDue}
use Rattle.svid_c.specs.declared.journal_read.SvidFrame.{SvidFrame}
use Rattle.svid_c.specs.declared.journal_read.SvidReader.{SvidReader}
use Rattle.svid_c.specs.declared.told.SvidTold.{SvidTold}

-- the numbers that C keeps, as those of a folder
abbrev pub words_in : SvidFolder → Words
words_in f = record { step = f.step; oldest = f.oldest; newest = f.newest; ended = f.ended; count = f.count; end = f.end; flying = f.flying; pieces = f.pieces }

-- they are those of this folder
abbrev pub AreOf : SvidFolder → Folder → Type 0
AreOf numbers f = words_in numbers ≡ words_of f

-- they are those of no folder
abbrev pub AreOfNone : SvidFolder → Type 0
AreOfNone numbers = (f : Folder) → AreOf numbers f → ⊥

-- the number of a fault
abbrev pub folder_number : Fault → ℕ
folder_number fault.Unfit = 41
folder_number fault.Ended = 42
folder_number fault.NotGrowing = 43
folder_number fault.Busy = 44
folder_number fault.NothingDue = 45
folder_number fault.Flying = 46
folder_number fault.NotFlying = 47
folder_number fault.NotWriting = 48
folder_number fault.NoMark = 49
folder_number fault.TooLong = 50
folder_number fault.Full = 51
folder_number (fault.TooShort len) = 1

-- how many bytes a room must have, where it is too short, and else 0
abbrev pub wanted_of : Fault → ℕ
wanted_of fault.Unfit = 0
wanted_of fault.Ended = 0
wanted_of fault.NotGrowing = 0
wanted_of fault.Busy = 0
wanted_of fault.NothingDue = 0
wanted_of fault.Flying = 0
wanted_of fault.NotFlying = 0
wanted_of fault.NotWriting = 0
wanted_of fault.NoMark = 0
wanted_of fault.TooLong = 0
wanted_of fault.Full = 0
wanted_of (fault.TooShort len) = len

-- why a call is not taken: the numbers are those of no folder, or of one that has a fault
pub data Refuses (due : Folder → Option Fault) (numbers : SvidFolder) (e : Fault) : Type 0 where
  of_none : AreOfNone numbers → e ≡ fault.Unfit → Refuses due numbers e
  of_folder : (f : Folder) → AreOf numbers f → due f ≡ Some e → Refuses due numbers e

-- A start: there is a fault, and nothing happened; or the numbers are those of the folder that is opened.
pub data Starts (due : Option Fault) (opened : Folder) (status : ℕ) (old new : SvidFolder) : Type 0 where
  unstarted : (e : Fault) → due ≡ Some e → status ≡ folder_number e → new ≡ old → Starts due opened status old new
  starts : due ≡ None → status ≡ 0 → AreOf new opened → Starts due opened status old new

-- A call is not taken, and nothing happened; or the folder moves on.
pub data Moves (due : Folder → Option Fault) (after : Folder → Folder) (status : ℕ) (old new : SvidFolder) : Type 0 where
  unmoved : (e : Fault) → Refuses due old e → status ≡ folder_number e → new ≡ old → Moves due after status old new
  moves : (f : Folder) → AreOf old f → due f ≡ None → status ≡ 0 → AreOf new (after f) → Moves due after status old new

-- a call of the system in numbers
abbrev pub call_of : Call → SvidDue
call_of call.Nothing = record { call = 0; journal = 0 }
call_of (call.CreateJournal number) = record { call = 1; journal = number }
call_of call.SyncFolder = record { call = 2; journal = 0 }
call_of call.WriteSnapshot = record { call = 3; journal = 0 }
call_of call.SyncSnapshot = record { call = 4; journal = 0 }
call_of call.RenameSnapshot = record { call = 5; journal = 0 }
call_of (call.RemoveJournal number) = record { call = 6; journal = number }

-- The call is refused, and answers nothing; or it answers the system call that is due.
pub data IsDue (numbers : SvidFolder) (status : ℕ) (old new : SvidDue) : Type 0 where
  untold : (e : Fault) → Refuses ready_fault numbers e → status ≡ folder_number e → new ≡ old → IsDue numbers status old new
  tells : (f : Folder) → AreOf numbers f → ready_fault f ≡ None → status ≡ 0 → new ≡ call_of (due_at f.step f) → IsDue numbers status old new

-- The call is refused, or the room is too short, and nothing happens; or a frame of a payload is written to the start of the room, the rest
-- of the room is unchanged, and the folder advances.
pub data Frames (due : Folder → Option Fault) (title : Folder → Title) (number : Folder → ℕ) (after : Folder → Folder) (payload : List ℕ) (status : ℕ) (told : SvidTold) (old_out new_out : List ℕ) (old new : SvidFolder) : Type 0 where
  unframed : (e : Fault) → Refuses (λ f. room_fault (due f) (length payload) (length old_out)) old e → status ≡ folder_number e → told ≡ told_length (wanted_of e) → new_out ≡ old_out → new ≡ old
      → Frames due title number after payload status told old_out new_out old new
  frames : (f : Folder) → AreOf old f → room_fault (due f) (length payload) (length old_out) ≡ None → status ≡ 0 → told ≡ told_length (frame_len (length payload))
      → new_out ≡ frame_of (bytes_of (title f)) (number f) payload ++ drop (frame_len (length payload)) old_out → AreOf new (after f) → Frames due title number after payload status told old_out new_out old new

-- the file of this number: 0 for the snapshot
abbrev pub file_of : ℕ → File
file_of number = if number == 0 then Snapshot else Journal number

abbrev pub title_of : ℕ → List ℕ → Title
title_of number folder = record { file = file_of number; folder = folder }

-- a reader that C keeps
abbrev pub reader_in : SvidReader → Reader
reader_in r = record { count = r.count; at = r.at; marked = not (r.marked == 0) }

-- and back
abbrev pub reader_out : Reader → SvidReader
reader_out r = record { count = r.count; at = r.at; marked = flag r.marked }

-- the number for what stands there
abbrev pub next_number : Next → ℕ
next_number (next.Payload p) = 0
next_number next.End = 52
next_number next.Tear = 53
next_number next.Damage = 54
next_number (next.Other format) = 55
next_number next.Unfit = 41

-- how far the file is read then
abbrev pub moved_by : Next → Reader → SvidReader → SvidReader
moved_by (next.Payload p) r old = reader_out r
moved_by next.End r old = old
moved_by next.Tear r old = old
moved_by next.Damage r old = old
moved_by (next.Other format) r old = old
moved_by next.Unfit r old = old

-- the answer about it: where the payload stands, or the number of the other format
abbrev pub found_by : Next → ℕ → SvidFrame → SvidFrame
found_by (next.Payload p) at old = record { payload = at + 32; len = length p.now; format = 2 }
found_by next.End at old = old
found_by next.Tear at old = old
found_by next.Damage at old = old
found_by (next.Other format) at old = record { payload = 0; len = 0; format = format }
found_by next.Unfit at old = old

-- the payload stands where the answer says
abbrev pub StandsAt : Next → ℕ → List ℕ → Type 0
StandsAt (next.Payload p) at bytes = take (length p.now) (drop (at + 32) bytes) ≡ p.now
StandsAt next.End at bytes = Unit {0}
StandsAt next.Tear at bytes = Unit {0}
StandsAt next.Damage at bytes = Unit {0}
StandsAt (next.Other format) at bytes = Unit {0}
StandsAt next.Unfit at bytes = Unit {0}

-- The answer is what stands at the offset of a reader, and the reader advances past a payload.
pub data Reads (title : Title) (bytes : List ℕ) (status : ℕ) (old_frame new_frame : SvidFrame) (old new : SvidReader) : Type 0 where
  reads : (found : Next) (r : Reader) → IsNext found title (reader_in old) r bytes → status ≡ next_number found → new ≡ moved_by found r old → new_frame ≡ found_by found old.at old_frame → StandsAt found old.at bytes
      → Reads title bytes status old_frame new_frame old new
