-- A group of validators that send each other their records and read one log: what may happen in it, and what that leaves.
use Rattle.std.specs.Prelude.{ℕ, Bool, List, [], ◌∷◌, ◌++◌, ◌==◌, drop, slice_get, Option, Some, None, if◌then◌else◌}
use Rattle.svid_replay.specs.declared.token_use.Use.{Use}
use Rattle.svid_replay.specs.Records.{State}
use Rattle.svid_replay.specs.Uses.{Uses}
use Rattle.svid_check.specs.Runs.{Terms}
use Rattle.svid_check.specs.World as check
use Rattle.svid_log.specs.Groups as log
use Rattle.svid_log.specs.declared.fate.Fate.{Fate}
use Rattle.svid_log.specs.declared.fate.Fate.TheVariants.{First, Withdrawal}
use Rattle.svid_log.specs.Steps.{fate_at, is_early}

-- what a validator has beside its record: uses of the log that the record did not gain, how many uses of the log it has read, how many its earlier lives may have read, and the moment before which it accepts nothing
pub record Aside : Type 0 where
  pub uses : Uses
  pub read : ℕ
  pub ready : ℕ
  pub deaf : ℕ

-- a group that reads a log: its validators with their postings and saves, the log, what each validator has beside its record, and what it had at each save
pub record World : Type 0 where
  pub group : check.World
  pub log : List Use
  pub asides : ℕ → Aside
  pub saved : List Aside

-- What may happen. `Call`: any event of a group without a log. `Put`: anyone puts any use at the end of the log. `Read`: validator v reads the next
-- use of the log at the time `now`, and memory may be refused. `Look`: uses beside its record that have expired are dropped. `Anew`: it begins with
-- an empty record, at a position of the log before which everything has expired. `Miss`: it misses uses, and accepts nothing until a moment by which
-- these have expired.
pub data Event : Type 0 where
  Call : (event : check.Event) → Event
  Put : (u : Use) → Event
  Read : (v now : ℕ) (refused : Bool) → Event
  Look : (v : ℕ) → Event
  Anew : (v front until : ℕ) → Event
  Miss : (v more until : ℕ) → Event

-- a validator as a reader of the log
abbrev pub reader : check.Member → Aside → log.Reader
reader x a = record { held = x.held; beside = a.uses; read = a.read; ready = a.ready; deaf = a.deaf }

-- what a reader has beside its record
abbrev pub aside_of : log.Reader → Aside
aside_of r = record { uses = r.beside; read = r.read; ready = r.ready; deaf = r.deaf }

-- validator v as a reader of the log
abbrev pub reader_at : World → ℕ → log.Reader
reader_at w v = reader (w.group.members v) (w.asides v)

-- the saves, each with what was saved beside it, as saves of readers
abbrev pub saves_of : List check.Saved → List Aside → List log.Saved
saves_of (s ∷ saves) (a ∷ asides) = record { owner = s.owner; was = reader s.was a } ∷ saves_of saves asides
saves_of _ _ = []

-- the group as one that reads a log
abbrev pub as_readers : World → log.World
as_readers w = record { members = reader_at w; log = w.log; saves = saves_of w.group.saves w.saved }

-- a group that nothing happened in
abbrev pub start : World
start = record { group = check.start; log = []; asides = λ v. aside_of log.new_reader; saved = [] }

-- one of them is now this
abbrev pub put_aside : (ℕ → Aside) → ℕ → Aside → ℕ → Aside
put_aside asides v a = λ n. if n == v then a else asides n

-- validator v is now x, with this beside its record
abbrev pub put : World → ℕ → check.Member → Aside → World
put w v x a = record { group = check.put w.group v x; log = w.log; asides = put_aside w.asides v a; saved = w.saved }

-- a validator learns a time, and then that of a use unless it is early
abbrev pub passed : ℕ → check.Member → ℕ → Use → check.Member
passed far x now c = let y = check.ticked x now in if is_early y.held far c then y else check.ticked y c.at

-- a record gains the first claim of a token, and withdrawals
abbrev pub gain_by : Fate → Use → Option Use
gain_by First c = Some c
gain_by Withdrawal c = Some c
gain_by _ c = None

-- a validator that reads a use learns the moment at which it judges it, and what its record gains
abbrev pub told_by : ℕ → check.Member → Aside → ℕ → Bool → Use → check.Member
told_by far x a now refused c =
    let y = passed far x now c in
    if refused then y else check.gained y (gain_by (fate_at x.held a.uses now far c) c)

-- validator v reads the next use, if there is one
abbrev pub read_next : ℕ → World → ℕ → ℕ → Bool → Option Use → World
read_next far w v now refused None = w
read_next far w v now refused (Some c) = put w v (told_by far (w.group.members v) (w.asides v) now refused c) (aside_of (log.reads far (reader_at w v) now refused c))

-- validator v begins afresh at a position of the log, if everything before it has expired by then: it has learned nothing, and its setting stays
abbrev pub anew : World → (v front until : ℕ) → World
anew w v front until =
    if log.is_gone until front w.log
    then put w v (check.with_renewal check.new_member (w.group.members v).renewal) (aside_of (log.begins (reader_at w v) (log.reader_behind front until)))
    else w

-- validator v misses the next uses of the log, so many, if these have expired by then
abbrev pub miss : World → (v more until : ℕ) → World
miss w v more until =
    if log.is_gone until more (drop (w.asides v).read w.log) then put w v (w.group.members v) (aside_of (log.missed (reader_at w v) more until)) else w

-- a restart of validator v from this save puts back what was saved beside the record too; the validator may have read more than it knows
abbrev pub put_back : World → ℕ → Option check.Saved → Option Aside → ℕ → Aside
put_back w v (Some s) (Some a) = if s.owner == v then put_aside w.asides v (aside_of (log.begins (reader_at w v) (reader s.was a))) else w.asides
put_back w v _ _ = w.asides

-- what an event of the group leaves beside the records
abbrev pub asides_after : World → check.Event → ℕ → Aside
asides_after w (check.Restart v k) = put_back w v (slice_get w.group.saves k) (slice_get w.saved k)
asides_after w _ = w.asides

-- and what was saved beside them
abbrev pub saved_after : World → check.Event → List Aside
saved_after w (check.Save v) = w.saved ++ w.asides v ∷ []
saved_after w _ = w.saved

module _ (group : ℕ → Terms) where
  -- what a validator has for good, as a reader of the log
  abbrev pub as_terms : ℕ → log.Terms
  as_terms v = record { validator_id = (group v).setting.validator_id; ahead = (group v).ahead }

  -- what an event leaves
  abbrev pub happens : World → Event → World
  happens w (Call event) = record { group = check.happens group w.group event; log = w.log; asides = asides_after w event; saved = saved_after w event }
  happens w (Put u) = record { group = w.group; log = w.log ++ u ∷ []; asides = w.asides; saved = w.saved }
  happens w (Read v now refused) = read_next (check.far group v now) w v now refused (slice_get w.log (w.asides v).read)
  happens w (Look v) = put w v (w.group.members v) (aside_of (log.looked (reader_at w v)))
  happens w (Anew v front until) = anew w v front until
  happens w (Miss v more until) = miss w v more until

  -- what a list of events leaves
  abbrev pub happen : World → List Event → World
  happen w [] = w
  happen w (event ∷ events) = happen (happens w event) events

  -- the record of validator v at the moment at which it judges a use of the log
  abbrev pub judges : World → ℕ → ℕ → Use → State
  judges w v now c = log.judges as_terms (as_readers w) v now c

  -- validator v accepts the next use of the log, if it reads it at this time
  abbrev pub Accepts : World → (v now : ℕ) (c : Use) → Type 0
  Accepts w v now c = log.Accepts as_terms (as_readers w) v now c
