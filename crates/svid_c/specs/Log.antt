-- What the calls on a validator that reads a group's log do.
use Rattle.std.specs.Prelude.{◌≡◌, ℕ, ◌<◌, ◌≤◌, min, Bool, not, nat_lt, ◌&&◌, List, [], ◌∷◌, ◌++◌, length, take, drop, Option, Some, None}
use Rattle.std.specs.List.{flat_map}
use Rattle.svid_replay.specs.declared.token_use.Use.{Use}
use Rattle.svid_replay.specs.Records.{State}
use Rattle.svid_wire.specs.BatchText.{batch_text}
use Rattle.svid_wire.specs.declared.wire_fault.WireFault.{WireFault}
use Rattle.svid_log.specs.declared.fate.Fate.{Fate}
use Rattle.svid_log.specs.declared.fate.Fate.TheVariants as fate
use Rattle.svid_log.specs.declared.mark.Mark.{Mark}
use Rattle.svid_log.specs.declared.order.Order.{Order}
use Rattle.svid_log.specs.declared.order.Order.TheVariants as order
use Rattle.svid_log.specs.declared.reading.Reading.{Reading}
use Rattle.svid_log.specs.declared.reading.Rest.{Rest}
use Rattle.svid_log.specs.declared.reading.Rest.TheVariants as rest
use Rattle.svid_log.specs.Members.{HasRead, MemberState, order_of}
use Rattle.svid_log.specs.Saves.{restored, saved_of}
use Rattle.svid_log.specs.Steps.{horizon}
use Rattle.svid_log.specs.Values.{HasUses}
use Rattle.svid_check.specs.Setting.{with_state}
use Rattle.svid_c.specs.Checked.{use_seen}
use Rattle.svid_c.specs.Status.{reason_number, told_length, told_rows}
use Rattle.svid_c.specs.Written.{IsPut}
use Rattle.svid_c.specs.declared.live.Live.{Live}
use Rattle.svid_c.specs.declared.validator_mark.SvidMark.{SvidMark}
use Rattle.svid_c.specs.declared.validator_read.SvidFate.{SvidFate}
use Rattle.svid_c.specs.declared.validator_read.SvidReading.{SvidReading}
use Rattle.svid_c.specs.declared.told.SvidTold.{SvidTold}

-- the same validator, where it is in a log
abbrev pub with_member : Live → Option MemberState → Live
with_member live member = record { validator = live.validator; step = live.step; member = member; peer = live.peer }

-- the mark of a member, as C gives it
abbrev pub mark_in : SvidMark → Mark
mark_in mark = record { passed = mark.passed; begun = mark.begun; deaf = mark.deaf }

-- the mark of a member, as C sees it
abbrev pub mark_seen : MemberState → SvidMark
mark_seen m = record { passed = m.passed; begun = m.begun; deaf = m.deaf }

-- a member that has read all that its earlier lives may have read, and is not deaf at a moment: it accepts first claims of its own
abbrev pub is_accepting : MemberState → ℕ → Bool
is_accepting m moment = not (nat_lt m.passed m.ready) && not (nat_lt moment m.deaf)

-- the answer for a value that is not a sequence of messages: where in its message
abbrev pub told_value : Option WireFault → SvidTold
told_value None = told_length 0
told_value (Some fault) = record { len = 0; input = 1; message = 0; offset = fault.offset; more = 0 }

-- What beginning to read a log does: the validator has a member that goes on from this mark; or memory was refused, or the uses beside the
-- record are no messages, and nothing happens.
pub data BeginsToRead (mark : SvidMark) (ready lasts : ℕ) (beside : List ℕ) (status : ℕ) (told : SvidTold) (old new : Live) : Type 0 where
  begins : (uses : List Use) → HasUses beside uses None → status ≡ 0 → told ≡ told_length 0
      → new ≡ with_member old (Some (restored old.validator.validator_id lasts (mark_in mark) ready uses)) → BeginsToRead mark ready lasts beside status told old new
  beside_refused : (uses : List Use) (fault : WireFault) → HasUses beside uses (Some fault) → status ≡ reason_number fault.reason → told ≡ told_value (Some fault)
      → new ≡ old → BeginsToRead mark ready lasts beside status told old new
  no_memory_to_begin : status ≡ 2 → told ≡ told_length 0 → new ≡ old → BeginsToRead mark ready lasts beside status told old new

-- the number of a fate
abbrev pub fate_number : Fate → ℕ
fate_number fate.Accepted = 0
fate_number fate.First = 1
fate_number fate.Withdrawal = 2
fate_number fate.TooFarAhead = 8
fate_number fate.Expired = 118
fate_number fate.Withdrawn = 124
fate_number fate.Replayed = 125

-- a use and its fate, as C sees them
abbrev pub fate_seen : Use → Fate → SvidFate
fate_seen used fate = record { used = use_seen used; fate = fate_number fate }

-- uses with their fates
abbrev pub fates_seen : List Use → List Fate → List SvidFate
fates_seen [] fates = []
fates_seen (u ∷ us) [] = []
fates_seen (u ∷ us) (f ∷ fs) = fate_seen u f ∷ fates_seen us fs

-- the number of an order
abbrev pub order_number : Order → ℕ
order_number order.Again = 0
order_number order.Next = 1
order_number order.Gap = 2

-- a reading as C sees it
abbrev pub reading_seen : Reading → SvidReading
reading_seen r = record { order = order_number r.order; from = r.from; count = r.count }

-- nothing was read
abbrev pub nothing_read : SvidReading
nothing_read = record { order = 0; from = 0; count = 0 }

-- how a reading ended: the value is no row of messages, or it is read to its end, or there is no more room, or no memory
abbrev pub value_number : Option WireFault → Rest → ℕ
value_number (Some fault) rest = reason_number fault.reason
value_number None rest.Nothing = 0
value_number None rest.NoRoom = 1
value_number None rest.NoMemory = 2

-- What reading a value of the log does. Nothing happens if the validator reads no log, or values before this one are missing and there is no
-- time to read it at, or memory was refused for the value, or the value was read before. Else the member of the validator reads it, and the
-- uses that it reads are written with their fates.
pub data ReadsValue (now position : ℕ) (value : List ℕ) (status : ℕ) (told : SvidTold) (reading : SvidReading) (old_out new_out : List SvidFate) (old new : Live) : Type 0 where
  reads_none : old.member ≡ None → status ≡ 19 → told ≡ told_length 0 → reading ≡ nothing_read → new_out ≡ old_out → new ≡ old
      → ReadsValue now position value status told reading old_out new_out old new
  no_clock : (m : MemberState) → old.member ≡ Some m → now ≡ 0 → order_of m.passed position ≡ order.Gap → status ≡ 9 → told ≡ told_length 0 → reading ≡ nothing_read
      → new_out ≡ old_out → new ≡ old → ReadsValue now position value status told reading old_out new_out old new
  no_memory_for_value : status ≡ 2 → told ≡ told_length 0 → reading ≡ nothing_read → new_out ≡ old_out → new ≡ old
      → ReadsValue now position value status told reading old_out new_out old new
  was_read : (m : MemberState) (uses : List Use) (fault : Option WireFault) → old.member ≡ Some m → position ≤ m.passed → HasUses value uses fault
      → status ≡ value_number fault rest.Nothing → told ≡ told_value fault → reading ≡ nothing_read → new_out ≡ old_out → new ≡ old
      → ReadsValue now position value status told reading old_out new_out old new
  is_read : (m n : MemberState) (uses : List Use) (fault : Option WireFault) (room written : List Fate) (r : Reading) (y : State)
      → old.member ≡ Some m → m.passed < position → HasUses value uses fault → length room ≡ min (length uses) (length old_out)
      → HasRead now (horizon now old.validator.ahead) position m old.validator.state uses room r n y written
      → status ≡ value_number fault r.rest → told ≡ told_value fault → reading ≡ reading_seen r
      → new_out ≡ fates_seen (take r.count (drop r.from uses)) written ++ drop r.count old_out
      → new ≡ record { validator = with_state old.validator y; step = old.step; member = Some n; peer = old.peer }
      → ReadsValue now position value status told reading old_out new_out old new

-- what asking for a validator's position in its log does: it reads none, or the answer is its mark; nothing happens
pub data Marks (status : ℕ) (told : SvidTold) (old_mark new_mark : SvidMark) (old new : Live) : Type 0 where
  marks_none : old.member ≡ None → status ≡ 19 → told ≡ told_length 0 → new_mark ≡ old_mark → new ≡ old → Marks status told old_mark new_mark old new
  marks : (m : MemberState) → old.member ≡ Some m → status ≡ 0 → told ≡ told_rows 0 (is_accepting m old.validator.state.moment) → new_mark ≡ mark_seen m → new ≡ old
      → Marks status told old_mark new_mark old new

-- a member that is deaf no more
abbrev pub hearing : MemberState → MemberState
hearing m = record { beside = m.beside; validator_id = m.validator_id; lasts = m.lasts; passed = m.passed; begun = m.begun; ready = m.ready; deaf = 0 }

-- what going on does; the validator reads no log, and nothing happens, or it is deaf no more
pub data GoesOn (status : ℕ) (told : SvidTold) (old new : Live) : Type 0 where
  goes_on_nowhere : old.member ≡ None → status ≡ 19 → told ≡ told_length 0 → new ≡ old → GoesOn status told old new
  goes_on : (m : MemberState) → old.member ≡ Some m → status ≡ 0 → told ≡ told_length 0 → new ≡ with_member old (Some (hearing m)) → GoesOn status told old new

-- what writing the uses beside the record does; the validator reads no log, or memory was refused, or the text of those uses is put, or has no
-- room. Nothing happens to the validator.
pub data WritesBeside (status : ℕ) (told : SvidTold) (old_out new_out : List ℕ) (old new : Live) : Type 0 where
  beside_none : old.member ≡ None → status ≡ 19 → told ≡ told_length 0 → new_out ≡ old_out → new ≡ old → WritesBeside status told old_out new_out old new
  beside_no_memory : status ≡ 2 → told ≡ told_length 0 → new_out ≡ old_out → new ≡ old → WritesBeside status told old_out new_out old new
  beside : (m : MemberState) (text : List ℕ) → old.member ≡ Some m → text ≡ flat_map batch_text (saved_of m.beside) → IsPut text status old_out new_out
      → told ≡ told_length (length text) → new ≡ old → WritesBeside status told old_out new_out old new
