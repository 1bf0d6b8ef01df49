-- A group whose members read one log: what may happen in it, and the state after that.
use Rattle.std.specs.Prelude.{◌≡◌, ℕ, zero, suc, ◌+◌, ◌-◌, ◌≤◌, max, Bool, true, false, not, ◌&&◌, nat_lt, ◌==◌, List, [], ◌∷◌, ◌++◌, drop, slice_get, Option, Some, None, if◌then◌else◌}
use Rattle.svid_replay.specs.declared.token_use.Use.{Use}
use Rattle.svid_replay.specs.Records.{State, join, state_of}
use Rattle.svid_replay.specs.Uses.{Uses, live, no_uses}
use Rattle.svid_log.specs.declared.fate.Fate.TheVariants.{First}
use Rattle.svid_log.specs.Steps.{beside_after, fate_at, held_after, horizon, reached}

-- what a member keeps for good: its validator ID, and how many seconds the times of others may lie ahead of its own
pub record Terms : Type 0 where
  pub validator_id : List ℕ
  pub ahead : ℕ

-- A reader of the log: its record, the uses beside it, how many uses of the log it has read, how many its earlier lives may have
-- read, and the moment before which it accepts nothing, because it missed uses that may live until then.
pub record Reader : Type 0 where
  pub held : State
  pub beside : Uses
  pub read : ℕ
  pub ready : ℕ
  pub deaf : ℕ

-- a save: whose it is, and the state of that reader then
pub record Saved : Type 0 where
  pub owner : ℕ
  pub was : Reader

-- a group: its members, its log, and everything that was saved
pub record World : Type 0 where
  pub members : ℕ → Reader
  pub log : List Use
  pub saves : List Saved

-- What may happen. Anyone appends any use to the log. Member v reads the next use of the log at the time `now`, and memory may be
-- refused. A record is joined to its own outside of the log, as in every call of a validator. The expired uses beside the record
-- are dropped. The member is saved, or starts again from a save of its own. It starts with an empty record after a prefix of the
-- log that has expired, since a log keeps its uses only for a time. Or it misses uses of the log, and then accepts nothing until
-- a moment by which these have expired.
pub data Event : Type 0 where
  Put : (u : Use) → Event
  Read : (v now : ℕ) (refused : Bool) → Event
  Tell : (v : ℕ) (told : State) → Event
  Look : (v : ℕ) → Event
  Save : (v : ℕ) → Event
  Restart : (v save : ℕ) → Event
  Anew : (v front until : ℕ) → Event
  Miss : (v more until : ℕ) → Event

-- a reader at the start
abbrev pub new_reader : Reader
new_reader = record { held = state_of 0 []; beside = no_uses; read = 0; ready = 0; deaf = 0 }

-- a group at the start
abbrev pub start : World
start = record { members = λ v. new_reader; log = []; saves = [] }

-- member v is now x
abbrev pub put : World → ℕ → Reader → World
put w v x = record { members = λ n. if n == v then x else w.members n; log = w.log; saves = w.saves }

-- a reader reads a use; where memory is refused, it stays before it
abbrev pub reads : ℕ → Reader → ℕ → Bool → Use → Reader
reads far x now refused c =
    if refused then record { held = reached x.held now far c; beside = live x.beside (reached x.held now far c).moment; read = x.read; ready = x.ready; deaf = x.deaf }
    else record { held = held_after x.held x.beside now far c; beside = beside_after x.held x.beside now far c; read = x.read + 1; ready = x.ready; deaf = x.deaf }

-- a reader after another record was joined to its own
abbrev pub told : Reader → State → Reader
told x b = record { held = join x.held b; beside = x.beside; read = x.read; ready = x.ready; deaf = x.deaf }

-- a reader after the expired uses beside its record were dropped
abbrev pub looked : Reader → Reader
looked x = record { held = x.held; beside = live x.beside x.held.moment; read = x.read; ready = x.ready; deaf = x.deaf }

-- a reader starts again from an earlier state: it may have read more than it knows
abbrev pub begins : Reader → Reader → Reader
begins x was = record { held = was.held; beside = was.beside; read = was.read; ready = max x.ready x.read; deaf = was.deaf }

-- member v reads the next use, if there is one
abbrev pub read_next : ℕ → World → ℕ → ℕ → Bool → Option Use → World
read_next far w v now refused None = w
read_next far w v now refused (Some c) = put w v (reads far (w.members v) now refused c)

-- member v starts again from this save, if it is its own
abbrev pub restart : World → ℕ → Option Saved → World
restart w v None = w
restart w v (Some s) = if s.owner == v then put w v (begins (w.members v) s.was) else w

-- the log has so many uses, and they expire by a moment
abbrev pub is_gone : (until front : ℕ) → List Use → Bool
is_gone until zero log = true
is_gone until (suc n) [] = false
is_gone until (suc n) (u ∷ log) = not (nat_lt until u.exp) && is_gone until n log

-- a reader with an empty record after a prefix of the log
abbrev pub reader_behind : (front until : ℕ) → Reader
reader_behind front until = record { held = state_of 0 []; beside = no_uses; read = front; ready = 0; deaf = until }

-- member v starts without a save after a prefix of the log, if the prefix has expired by then
abbrev pub anew : World → (v front until : ℕ) → World
anew w v front until = if is_gone until front w.log then put w v (begins (w.members v) (reader_behind front until)) else w

-- a reader that skips so many uses more
abbrev pub missed : Reader → (more until : ℕ) → Reader
missed x more until = record { held = x.held; beside = x.beside; read = x.read + more; ready = x.ready; deaf = max x.deaf until }

-- member v misses so many of the next uses of the log, if these have expired by then
abbrev pub miss : World → (v more until : ℕ) → World
miss w v more until = if is_gone until more (drop (w.members v).read w.log) then put w v (missed (w.members v) more until) else w

module _ (group : ℕ → Terms) where
  -- the horizon of member v at a time
  abbrev pub far : ℕ → ℕ → ℕ
  far v now = horizon now (group v).ahead

  -- the group after an event
  abbrev pub happens : World → Event → World
  happens w (Put u) = record { members = w.members; log = w.log ++ u ∷ []; saves = w.saves }
  happens w (Read v now refused) = read_next (far v now) w v now refused (slice_get w.log (w.members v).read)
  happens w (Tell v b) = put w v (told (w.members v) b)
  happens w (Look v) = put w v (looked (w.members v))
  happens w (Save v) = record { members = w.members; log = w.log; saves = w.saves ++ record { owner = v; was = w.members v } ∷ [] }
  happens w (Restart v k) = restart w v (slice_get w.saves k)
  happens w (Anew v front until) = anew w v front until
  happens w (Miss v more until) = miss w v more until

  -- the group after a list of events
  abbrev pub happen : World → List Event → World
  happen w [] = w
  happen w (event ∷ events) = happen (happens w event) events

  -- the record of member v when it judges a use
  abbrev pub judges : World → ℕ → ℕ → Use → State
  judges w v now c = reached (w.members v).held now (far v now) c

  -- Member v accepts the next use of the log, if it reads it at this time: it is the member's own, no earlier life of the member
  -- may have read it, what the member missed has expired, and it is the first claim of its token.
  pub record Accepts (w : World) (v now : ℕ) (c : Use) : Type 0 where
    pub next : slice_get w.log (w.members v).read ≡ Some c
    pub own : c.validator_id ≡ (group v).validator_id
    pub ready : (w.members v).ready ≤ (w.members v).read
    pub heard : (w.members v).deaf ≤ (judges w v now c).moment
    pub first : fate_at (w.members v).held (w.members v).beside now (far v now) c ≡ First
