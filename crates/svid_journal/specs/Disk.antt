-- A disk with one folder of journals and a snapshot, as POSIX promises it: what each call does, and what a crash may leave.
-- Names, lengths and blocks reach the disk by themselves, each on its own, in any order; only a sync makes sure of them.
use Rattle.std.specs.Prelude.{◌≡◌, ◌⊎◌, ◌==◌, ◌||◌, ℕ, ◌+◌, Bool, true, false, not, if◌then◌else◌, List, [], ◌∷◌, ◌++◌, length, take, drop, Option, Some, None, MatchBool}

-- a file
pub record File : Type 0 where
  -- what a read returns
  pub seen : List ℕ
  -- a crash leaves at least these first bytes
  pub kept : List ℕ
  -- and nothing after them
  pub whole : Bool
  -- a sync failed: a later one does not show what is on the disk
  pub spoiled : Bool

-- a file that was just made
abbrev pub empty_file : File
empty_file = record { seen = []; kept = []; whole = false; spoiled = false }

-- A write: from this offset on the file has the bytes that landed, which are those of the write where it succeeded. Until a sync,
-- a crash may leave anything from there on
abbrev pub written : ℕ → List ℕ → File → File
written at landed f = record { seen = take at f.seen ++ (landed ++ drop (at + length landed) f.seen); kept = take at f.kept; whole = false; spoiled = f.spoiled }

-- the file after a sync, which succeeded or failed
abbrev pub forced : Bool → File → File
forced true f = if f.spoiled then f else record { seen = f.seen; kept = f.seen; whole = true; spoiled = false }
forced false f = record { seen = f.seen; kept = f.kept; whole = f.whole; spoiled = true }

-- a crash may leave these bytes of a file
abbrev pub MayLeave : File → List ℕ → Type 0
MayLeave f bytes = MatchBool f.whole (bytes ≡ f.kept) ((rest : List ℕ) × (bytes ≡ f.kept ++ rest))

-- a name: what it refers to, and what it may refer to after a crash
pub record Name (A : Type 0) : Type 0 where
  pub now : A
  pub may : List A
  -- a sync of the folder failed: a later one does not make sure of earlier changes of this name
  pub stuck : Bool

-- a name that refers to one thing
abbrev pub settled : {A : Type 0} → A → Name A
settled a = record { now = a; may = a ∷ []; stuck = false }

-- a name is made, replaced or removed
abbrev pub leads : {A : Type 0} → A → Name A → Name A
leads a name = record { now = a; may = name.may ++ a ∷ []; stuck = false }

-- it may refer to one thing only
abbrev pub is_sure : {A : Type 0} → List A → Bool
is_sure [] = false
is_sure (a ∷ []) = true
is_sure (a ∷ b ∷ more) = false

-- the name after a sync of the folder
abbrev pub named : {A : Type 0} → Bool → Name A → Name A
named true name = if name.stuck then name else settled name.now
named false name = record { now = name.now; may = name.may; stuck = name.stuck || not (is_sure name.may) }

-- a journal: its file, and whether its name is there
pub record Journal : Type 0 where
  pub file : File
  pub here : Name Bool

-- a file that is replaced as a whole: its name, and the file that is written beside it
pub record Kept : Type 0 where
  pub name : Name (Option File)
  pub beside : File

-- the folder: its journals by their numbers, the snapshot, the file that is written beside it, and the file with the folder's ID
pub record Disk : Type 0 where
  pub journals : ℕ → Journal
  pub snapshot : Name (Option File)
  pub beside : File
  pub id : Kept

-- the value at this number is replaced
abbrev pub put : {A : Type 0} → (ℕ → A) → ℕ → A → ℕ → A
put f k a n = if n == k then a else f n

-- The calls. One that fails does nothing, unless it is a write or a sync.

-- make an empty journal
abbrev pub create_journal : ℕ → Disk → Disk
create_journal k d = record { journals = put d.journals k (record { file = empty_file; here = leads true (d.journals k).here }); snapshot = d.snapshot; beside = d.beside; id = d.id }

abbrev pub on_file : ℕ → (File → File) → Disk → Disk
on_file k f d = record { journals = put d.journals k (record { file = f (d.journals k).file; here = (d.journals k).here }); snapshot = d.snapshot; beside = d.beside; id = d.id }

-- write to a journal
abbrev pub write_journal : ℕ → ℕ → List ℕ → Disk → Disk
write_journal k at landed d = on_file k (written at landed) d

-- sync a journal
abbrev pub sync_journal : ℕ → Bool → Disk → Disk
sync_journal k ok d = on_file k (forced ok) d

-- remove a journal
abbrev pub remove_journal : ℕ → Disk → Disk
remove_journal k d = record { journals = put d.journals k (record { file = (d.journals k).file; here = leads false (d.journals k).here }); snapshot = d.snapshot; beside = d.beside; id = d.id }

-- Write a piece of the file beside, which has so many pieces. The first piece creates the file, or empties it.
abbrev pub write_piece : ℕ → ℕ → List ℕ → Disk → Disk
write_piece pieces at landed d = record { journals = d.journals; snapshot = d.snapshot; beside = written at landed (if pieces == 0 then empty_file else d.beside); id = d.id }

-- sync it
abbrev pub sync_beside : Bool → Disk → Disk
sync_beside ok d = record { journals = d.journals; snapshot = d.snapshot; beside = forced ok d.beside; id = d.id }

-- rename it over the snapshot
abbrev pub rename_beside : Disk → Disk
rename_beside d = record { journals = d.journals; snapshot = leads (Some d.beside) d.snapshot; beside = d.beside; id = d.id }

-- sync the folder
abbrev pub sync_folder : Bool → Disk → Disk
sync_folder ok d = record { journals = λ k. record { file = (d.journals k).file; here = named ok (d.journals k).here }; snapshot = named ok d.snapshot; beside = d.beside; id = record { name = named ok d.id.name; beside = d.id.beside } }

-- write the file beside the one with the ID, a new file
abbrev pub write_id : List ℕ → Disk → Disk
write_id landed d = record { journals = d.journals; snapshot = d.snapshot; beside = d.beside; id = record { name = d.id.name; beside = written 0 landed empty_file } }

-- sync it
abbrev pub sync_id : Bool → Disk → Disk
sync_id ok d = record { journals = d.journals; snapshot = d.snapshot; beside = d.beside; id = record { name = d.id.name; beside = forced ok d.id.beside } }

-- rename it over the one with the ID
abbrev pub rename_id : Disk → Disk
rename_id d = record { journals = d.journals; snapshot = d.snapshot; beside = d.beside; id = record { name = leads (Some d.id.beside) d.id.name; beside = d.id.beside } }

-- what a crash leaves
pub record Outcome : Type 0 where
  pub here : ℕ → Bool
  pub bytes : ℕ → List ℕ
  pub snapshot : Option (List ℕ)
  pub beside : List ℕ
  pub id : Option (List ℕ)
  pub id_beside : List ℕ

-- this is one of them
abbrev pub IsOneOf : {A : Type 0} → List A → A → Type 0
IsOneOf [] a = ⊥
IsOneOf (b ∷ bs) a = (b ≡ a) ⊎ IsOneOf bs a

-- a crash may leave this of a snapshot
abbrev pub MayLeaveFile : Option File → Option (List ℕ) → Type 0
MayLeaveFile None None = Unit {0}
MayLeaveFile None (Some bytes) = ⊥
MayLeaveFile (Some f) None = ⊥
MayLeaveFile (Some f) (Some bytes) = MayLeave f bytes

-- a crash may leave this: each name and each file in a state that it may have
pub record IsOutcome (d : Disk) (o : Outcome) : Type 0 where
  pub names : (k : ℕ) → IsOneOf (d.journals k).here.may (o.here k)
  pub journals : (k : ℕ) → MayLeave (d.journals k).file (o.bytes k)
  pub snapshot : (there : Option File) × IsOneOf d.snapshot.may there × MayLeaveFile there o.snapshot
  pub beside : MayLeave d.beside o.beside
  pub id : (there : Option File) × IsOneOf d.id.name.may there × MayLeaveFile there o.id
  pub id_beside : MayLeave d.id.beside o.id_beside

-- a file that is whole on the disk
abbrev pub at_rest : List ℕ → File
at_rest bytes = record { seen = bytes; kept = bytes; whole = true; spoiled = false }

abbrev pub option_at_rest : Option (List ℕ) → Option File
option_at_rest None = None
option_at_rest (Some bytes) = Some (at_rest bytes)

-- the disk after a crash that left this
abbrev pub after_crash : Outcome → Disk
after_crash o = record { journals = λ k. record { file = at_rest (o.bytes k); here = settled (o.here k) }; snapshot = settled (option_at_rest o.snapshot); beside = at_rest o.beside; id = record { name = settled (option_at_rest o.id); beside = at_rest o.id_beside } }

abbrev pub option_seen : Option File → Option (List ℕ)
option_seen None = None
option_seen (Some f) = Some f.seen

-- what a read finds now
abbrev pub as_seen : Disk → Outcome
as_seen d = record { here = λ k. (d.journals k).here.now; bytes = λ k. (d.journals k).file.seen; snapshot = option_seen d.snapshot.now; beside = d.beside.seen; id = option_seen d.id.name.now; id_beside = d.id.beside.seen }

-- what a start may find: after a crash, or without one
abbrev pub IsLeft : Disk → Outcome → Type 0
IsLeft d o = IsOutcome d o ⊎ (o ≡ as_seen d)
