-- The calls of a member in mode once and what happens in its state folder, one after the other.
use Rattle.std.specs.Prelude.{◌≡◌, ℕ, ◌≤◌, Bool, true, List, [], ◌∷◌, Some}
use Rattle.std.specs.List.{list_any}
use Rattle.svid_replay.specs.declared.token_use.Use.{Use}
use Rattle.svid_replay.specs.Records as records
use Rattle.svid_journal.specs.Disk.{IsLeft, Outcome}
use Rattle.svid_journal.specs.History.{Event, IsAllowed, IsRead, Titles, World, fresh, happens}
use Rattle.svid_journal.specs.History.Event.{Start}
use Rattle.svid_requests.specs.declared.event.Event.TheVariants.{Wrote}
use Rattle.svid_requests.specs.declared.request.Request.{Request}
use Rattle.svid_requests.specs.declared.stage.Stage.TheVariants.{Writing}
use Rattle.svid_requests.specs.Tables.{State, begun, find}
use Rattle.svid_member.specs.declared.mode.Mode.TheVariants.{Once}
use Rattle.svid_member.specs.declared.readiness.Readiness.{Readiness}
use Rattle.svid_member.specs.Modes.{needs_of}
use Rattle.svid_answers.specs.Alone.{WasGiven, answered}
use Rattle.svid_answers.specs.Records.{Knows, member_of}
use Rattle.svid_answers.specs.RunsAlone as alone
use Rattle.svid_answers.specs.RunsAlone.Call.{Hear, Begin}

-- the member with its answers, and its state folder
pub record Now : Type 0 where
  pub alone : alone.Now
  pub folder : World

-- What happens.
-- - `Member`: a call of the member, other than a start.
-- - `Folder`: anything in its folder.
-- - `Restart`: it ends, its folder is opened and read, and it starts with the record of the payloads.
pub data Call : Type 0 where
  Member : alone.Call → Call
  Folder : Event → Call
  Restart : (oldest newest : ℕ) (payloads : List (List ℕ)) (read : records.State) (wait ahead lasts : ℕ) (life : List ℕ) (knows : Readiness) → Call

-- a request waits until this use is on the disk
abbrev pub IsWriting : State → ℕ → Use → Type 0
IsWriting s n u = (r : Request) × (find n s.table.requests ≡ Some r) × (r.stage ≡ Writing u)

-- `tells` says whether a payload has a use, or a time by which the use has expired.
module _ (tells : Use → List ℕ → Bool) (t : Titles) where
  -- A condition on the shell: it reports that a use is on the disk only if the folder acknowledged a payload that has the use.
  abbrev pub IsReported : Now → alone.Call → Type 0
  IsReported a (Hear up e) = (n : ℕ) (u : Use) → e ≡ Wrote n true → IsWriting a.alone.member.requests n u → list_any (tells u) a.folder.acknowledged ≡ true
  IsReported a (Begin read kept wait ahead lasts life knows) = ⊥
  IsReported a _ = Unit {0}

  -- the laws of a folder allow this event, for each use
  abbrev pub InFolder : World → Event → World → Type 0
  InFolder x e y = ((u : Use) → IsAllowed (tells u) t x e) × (y ≡ happens t x e)

  -- What a call does. A start takes the payloads that are read from the folder. Its record knows each use that one of them has.
  abbrev pub Does : Call → Now → Now → Type 0
  Does (Member c) a b = IsReported a c × alone.Does c a.alone b.alone × (b.folder ≡ a.folder)
  Does (Folder e) a b = InFolder a.folder e b.folder × (b.alone ≡ a.alone)
  Does (Restart oldest newest payloads read wait ahead lasts life knows) a b =
      InFolder a.folder (Start oldest newest payloads) b.folder × ((u : Use) → list_any (tells u) payloads ≡ true → Knows read u)
      × (b.alone ≡ record { held = read; member = member_of Once life ahead lasts knows (begun (needs_of Once true) wait); given = a.alone.given })

  -- all calls so far, last first, left this; the folder was empty at first
  abbrev pub Run : List Call → Now → Type 0
  Run [] b = b ≡ record { alone = alone.nothing; folder = fresh }
  Run (c ∷ calls) b = (a : Now) × Run calls a × Does c a b

-- Whatever the calls and events, including a crash or a failing disk, no token was answered 200 twice.
abbrev pub RunsAnswerOnce : Type 0
RunsAnswerOnce = (tells : Use → List ℕ → Bool) (t : Titles) (calls : List Call) (b : Now) (key : List ℕ) (exp : ℕ) → Run tells t calls b → answered key exp b.alone.given ≤ 1

-- And whatever a crash leaves of the folder, each use with which a request was answered 200 is read back.
abbrev pub AnsweredIsRead : Type 0
AnsweredIsRead = (tells : Use → List ℕ → Bool) (t : Titles) (calls : List Call) (b : Now) (u : Use) (o : Outcome) → Run tells t calls b → WasGiven b.alone.given u → IsLeft b.folder.disk o → IsRead (tells u) t o
