-- What a state folder promises, over every history.
use Rattle.std.specs.Prelude.{◌≡◌, ◌≢◌, ◌⊎◌, ◌||◌, if◌then◌else◌, ℕ, ◌+◌, ◌^◌, ◌<◌, Bool, true, false, List, [], ◌∷◌, ◌++◌, length, take, drop, replicate, None, Some}
use Rattle.std.specs.List.{AllByRecursion, list_any}
use Rattle.svid_journal.specs.declared.step.Step.TheVariants.{Idle}
use Rattle.svid_journal.specs.Frames.{tag_of, sealed, filler, frame_of, frames_of, IsPayload, IsReading}
use Rattle.svid_journal.specs.Reading.{HasLater}
use Rattle.svid_journal.specs.declared.call.Call.{Call}
use Rattle.svid_journal.specs.declared.call.Call.TheVariants.{Nothing, CreateJournal, SyncFolder, WriteSnapshot, SyncSnapshot, RenameSnapshot, RemoveJournal}
use Rattle.svid_journal.specs.Folder.{is_fit, open_fault, is_starting, due_at, at_step, ended, answer_fault, landed_fault, piece_fault, put_fault}
use Rattle.svid_journal.specs.Disk.{Outcome, IsOutcome, as_seen, IsLeft}
use Rattle.svid_journal.specs.History.{Titles, titles_of, World, Event, happens, history, fresh, IsRead, AreAllowed, IsIdKept}
use Rattle.svid_journal.specs.History.Event.{Begin, Answer, Piece, Put, Grow, Sync, WriteId, SyncId, RenameId, NameId, Crash, Start}

-- A use that was acknowledged is read at the next start, whenever that is, after a crash or without one.
abbrev pub AcknowledgedIsRead : Type 0
AcknowledgedIsRead = (has : List ℕ → Bool) (t : Titles) (events : List Event) → AreAllowed has t events fresh → list_any has (history t events fresh).acknowledged ≡ true → (o : Outcome) → IsLeft (history t events fresh).disk o → IsRead has t o

-- Nothing is acknowledged before a first journal grew. From then on the file with the ID is there, whole, after any crash: so
-- each frame can be read under the title with which it was sealed.
abbrev pub IdIsRead : Type 0
IdIsRead =
    (t : Titles) (events : List Event) → IsIdKept t events fresh → (((history t events fresh).acknowledged ≡ []) ⊎ (0 < (history t events fresh).home)) × (0 < (history t events fresh).home → (o : Outcome) → IsLeft (history t events fresh).disk o → o.id ≡ Some t.id)

-- A journal's acknowledged payloads, since it was made, are the first that are read of it, in order, after any crash.
abbrev pub JournalsAreRead : Type 0
JournalsAreRead =
    (has : List ℕ → Bool) (t : Titles) (events : List Event) → AreAllowed has t events fresh → (o : Outcome) → IsLeft (history t events fresh).disk o
    → (k : ℕ) (payloads : List (List ℕ)) (rest : List ℕ) → IsReading (t.journal k) (o.bytes k) payloads rest → (more : List (List ℕ)) × (payloads ≡ (history t events fresh).logs k ++ more)

-- Nothing else is read.

-- one of the texts is this one
abbrev pub Among : List (List ℕ) → List ℕ → Type 0
Among [] text = ⊥
Among (t ∷ texts) text = (t ≡ text) ⊎ Among texts text

-- a text of a file with another title
abbrev pub IsOfAnother : List ℕ → List ℕ → Type 0
IsOfAnother title text = take 31 (drop 1 text) ≢ title

-- Where there is a whole frame of this number, its tag is that of one of these texts. This also holds where there is no whole
-- frame: in filler, zeros, or a head that was cut off.
abbrev pub IsAsWritten : List (List ℕ) → List ℕ → ℕ → List ℕ → Type 0
IsAsWritten texts title number bytes = (payload behind : List ℕ) → IsPayload payload → bytes ≡ frame_of title number payload ++ behind → (text : List ℕ) × Among texts text × (take 20 bytes ≡ tag_of text)

-- the same wherever a reader of the file looks for the next frame
abbrev pub MakesUpNoTag : List (List ℕ) → List ℕ → List ℕ → Type 0
MakesUpNoTag texts title bytes = (payloads : List (List ℕ)) (rest : List ℕ) → AllByRecursion IsPayload payloads → bytes ≡ frames_of title 1 payloads ++ rest → IsAsWritten texts title (1 + length payloads) rest

-- No whole head was written here: there are too few bytes for one, or its last four are zeros, as in a page that was never
-- written and in a head that was cut off, or filler.
abbrev pub IsNoHead : List ℕ → Type 0
IsNoHead bytes = (length bytes < 32) ⊎ ((drop 28 (take 32 bytes) ≡ replicate 4 0) ⊎ (drop 28 (take 32 bytes) ≡ filler 4))

-- There no tag is made up.
abbrev pub TornIsAsWritten : Type 0
TornIsAsWritten = (texts : List (List ℕ)) (title : List ℕ) (number : ℕ) (bytes : List ℕ) → IsNoHead bytes → IsAsWritten texts title number bytes

-- another one of these texts has the tag of the frame
pub record IsClash (texts : List (List ℕ)) (title : List ℕ) (number : ℕ) (payload : List ℕ) : Type 0 where
  pub text : List ℕ
  pub written : Among texts text
  pub differs : sealed 2 title number payload ≢ text
  pub one_tag : tag_of (sealed 2 title number payload) ≡ tag_of text

-- each payload was appended to this file with its number, or two texts have one tag
abbrev pub EachAppended : List (List ℕ) → List (List ℕ) → List ℕ → ℕ → List (List ℕ) → Type 0
EachAppended texts others title number [] = Unit {0}
EachAppended texts others title number (p ∷ payloads) = (Among texts (sealed 2 title number p) ⊎ IsClash (others ++ texts) title number p) × EachAppended texts others title (number + 1) payloads

-- If the whole frames of a file have only tags of texts that this program sealed, and of others with other titles, then only what
-- this program appended to the file is read.
abbrev pub OnlyAppended : World → List ℕ → List ℕ → Type 0
OnlyAppended w title bytes =
    (others : List (List ℕ)) → AllByRecursion (IsOfAnother title) others → MakesUpNoTag (others ++ w.texts) title bytes → (payloads : List (List ℕ)) (rest : List ℕ) → IsReading title bytes payloads rest → EachAppended w.texts others title 1 payloads

abbrev pub NothingElseIsRead : Type 0
NothingElseIsRead =
    (folder : List ℕ) → length folder ≡ 16 → (events : List Event) (bytes : List ℕ)
    → ((k : ℕ) → OnlyAppended (history (titles_of folder) events fresh) ((titles_of folder).journal k) bytes) × OnlyAppended (history (titles_of folder) events fresh) (titles_of folder).snapshot bytes

-- For each journal, after any crash: where the bytes of an acknowledged frame were changed, and another acknowledged one follows
-- it, reading stops there and finds a later frame; or a frame of its number is there.
abbrev pub DamageIsSeen : Type 0
DamageIsSeen =
    (has : List ℕ → Bool) (t : Titles) (events : List Event) → AreAllowed has t events fresh → (o : Outcome) → IsLeft (history t events fresh).disk o
    → (k : ℕ) (before after : List (List ℕ)) (lost next broken : List ℕ) → (history t events fresh).logs k ≡ before ++ lost ∷ next ∷ after → 2 + length before < 2 ^ 64
    → length broken ≡ length (frame_of (t.journal k) (1 + length before) lost)
    → let back = drop (length (frames_of (t.journal k) 1 before) + length broken) (o.bytes k) in
    (payloads : List (List ℕ)) (rest : List ℕ) → IsReading (t.journal k) (frames_of (t.journal k) 1 before ++ (broken ++ back)) payloads rest
    → ((payloads ≡ before) × HasLater (t.journal k) (1 + length before) rest) ⊎ ((payload behind : List ℕ) × IsPayload payload × (broken ++ back ≡ frame_of (t.journal k) (1 + length before) payload ++ behind))

-- Once a sync failed, nothing is acknowledged until the next start.

abbrev pub IsNoStart : Event → Type 0
IsNoStart Begin = Unit {0}
IsNoStart (Answer ok) = Unit {0}
IsNoStart (Piece payload ok landed) = Unit {0}
IsNoStart (Put payload ok landed) = Unit {0}
IsNoStart (Grow offset landed) = Unit {0}
IsNoStart (Sync ok) = Unit {0}
IsNoStart (WriteId text ok landed) = Unit {0}
IsNoStart (SyncId ok) = Unit {0}
IsNoStart RenameId = Unit {0}
IsNoStart (NameId ok) = Unit {0}
IsNoStart (Crash left) = Unit {0}
IsNoStart (Start oldest newest read) = ⊥

abbrev pub EndedAcknowledgesNothing : Type 0
EndedAcknowledgesNothing = (t : Titles) (events : List Event) (w : World) → w.folder.ended ≡ true → AllByRecursion IsNoStart events → (history t events w).acknowledged ≡ w.acknowledged

-- Which failures end a folder: that of a sync of the journal that grows, that of a sync of the folder, and that of a start. Any
-- other, such as a failed sync of the file beside the snapshot, only ends the switch, and a failed write ends nothing.

abbrev pub is_folder_sync : Call → Bool
is_folder_sync Nothing = false
is_folder_sync (CreateJournal k) = false
is_folder_sync SyncFolder = true
is_folder_sync WriteSnapshot = false
is_folder_sync SyncSnapshot = false
is_folder_sync RenameSnapshot = false
is_folder_sync (RemoveJournal k) = false

pub record EndsByFailures (t : Titles) (w : World) : Type 0 where
  pub sync : landed_fault w.folder ≡ None → (happens t w (Sync false)).folder ≡ ended w.folder
  pub answer : answer_fault w.folder false ≡ None → (happens t w (Answer false)).folder ≡ (if is_starting w.folder.step || is_folder_sync (due_at w.folder.step w.folder) then ended w.folder else at_step w.folder Idle)
  pub piece : (payload landed : List ℕ) → piece_fault w.folder (length payload) ≡ None → (happens t w (Piece payload false landed)).folder ≡ at_step w.folder Idle
  pub put : (payload landed : List ℕ) → put_fault w.folder (length payload) ≡ None → (happens t w (Put payload false landed)).folder ≡ w.folder

abbrev pub FailuresEnd : Type 0
FailuresEnd = (t : Titles) (w : World) → EndsByFailures t w

-- The numbers of a folder stay those of a folder: no call reports that they are not, whatever happened before. Each start has
-- numbers that it takes.
abbrev pub StartsFit : Event → Type 0
StartsFit Begin = Unit {0}
StartsFit (Answer ok) = Unit {0}
StartsFit (Piece payload ok landed) = Unit {0}
StartsFit (Put payload ok landed) = Unit {0}
StartsFit (Grow offset landed) = Unit {0}
StartsFit (Sync ok) = Unit {0}
StartsFit (WriteId text ok landed) = Unit {0}
StartsFit (SyncId ok) = Unit {0}
StartsFit RenameId = Unit {0}
StartsFit (NameId ok) = Unit {0}
StartsFit (Crash left) = Unit {0}
StartsFit (Start oldest newest read) = open_fault oldest newest ≡ None

abbrev pub NumbersStayFit : Type 0
NumbersStayFit = (t : Titles) (events : List Event) → AllByRecursion StartsFit events → is_fit (history t events fresh).folder ≡ true

-- A crash may come at any time, and leave what a read finds now.
abbrev pub CrashesMayCome : Type 0
CrashesMayCome = (t : Titles) (events : List Event) → IsOutcome (history t events fresh).disk (as_seen (history t events fresh).disk)

-- The premises can be met: a first start makes the file with the ID and a journal, a payload is appended and acknowledged, and a
-- new journal and a snapshot that has it replace the old journal.
abbrev pub example : Titles → List Event
example t =
    WriteId t.id true [] ∷ SyncId true ∷ RenameId ∷ NameId true ∷ Start 1 0 [] ∷ Answer true ∷ Answer true ∷ Put (7 ∷ []) true [] ∷ Sync true ∷ Begin ∷ Answer true ∷ Answer true ∷ Piece (7 ∷ []) true [] ∷ Piece [] true [] ∷ Answer true ∷ Answer true ∷ Answer true ∷ Answer true ∷ Answer true ∷ []

abbrev pub ExampleIsAllowed : Type 0
ExampleIsAllowed =
    (has : List ℕ → Bool) (t : Titles) → AreAllowed has t (example t) fresh × IsIdKept t (example t) fresh × ((history t (example t) fresh).acknowledged ≡ (7 ∷ []) ∷ [])
    × ((history t (example t) fresh).folder ≡ record { step = Idle; oldest = 2; newest = 2; ended = false; count = 0; end = 0; flying = 0; pieces = 2 })
