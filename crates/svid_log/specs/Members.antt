-- A member reads the values of a log, each a list of uses, by their numbers in the log.
use Rattle.std.specs.Prelude.{◌≡◌, ◌≢◌, ℕ, ◌+◌, ◌-◌, ◌<◌, ◌≤◌, max, Bool, not, nat_lt, ◌&&◌, List, [], ◌∷◌, ◌++◌, length, take, drop, slice_get, Option, Some, None, refl, if◌then◌else◌}
use Rattle.std.specs.Coded.{Coded, code_by, coded×, coded_list, coded_ℕ}
use Rattle.std.specs.Ordering.{is_eq}
use Rattle.svid_replay.specs.declared.token_use.Use.{Use}
use Rattle.svid_replay.specs.Records.{State}
use Rattle.svid_replay.specs.Use.{bytes_cmp}
use Rattle.svid_replay.specs.Uses.{Uses, live, uses_code}
use Rattle.svid_log.specs.declared.fate.Fate.{Fate}
use Rattle.svid_log.specs.declared.order.Order.{Order}
use Rattle.svid_log.specs.declared.order.Order.TheVariants.{Again, Next, Gap}
use Rattle.svid_log.specs.declared.reading.Reading.{Reading}
use Rattle.svid_log.specs.declared.reading.Rest.{Rest}
use Rattle.svid_log.specs.declared.reading.Rest.TheVariants.{Nothing, NoRoom, NoMemory}
use Rattle.svid_log.specs.declared.rows.Standing.{Standing}
use Rattle.svid_log.specs.Steps.{beside_after, decided, fate_at, held_after, horizon, reached}

-- a record, and the uses beside it
pub record Ledger : Type 0 where
  pub held : State
  pub beside : Uses

-- both after the next use of the log was read
abbrev pub after_one : ℕ → ℕ → Ledger → Use → Ledger
after_one now far l c = record { held = held_after l.held l.beside now far c; beside = beside_after l.held l.beside now far c }

-- both after the next uses were read
abbrev pub after_all : ℕ → ℕ → Ledger → List Use → Ledger
after_all now far l [] = l
after_all now far l (c ∷ cs) = after_all now far (after_one now far l c) cs

-- a member accepts a first claim at a moment: the claim is its own, no earlier life may have read it, and what the member missed
-- has expired
abbrev pub accepts : Standing → ℕ → Use → Bool
accepts s moment c = s.fresh && is_eq (bytes_cmp s.validator_id c.validator_id) && not (nat_lt moment s.deaf)

-- the fate that a member reports for the next use
abbrev pub answer_at : Standing → ℕ → ℕ → Ledger → Use → Fate
answer_at s now far l c = decided (fate_at l.held l.beside now far c) (accepts s (held_after l.held l.beside now far c).moment c)

-- the fates of the next uses
abbrev pub fates_of : Standing → ℕ → ℕ → Ledger → List Use → List Fate
fates_of s now far l [] = []
fates_of s now far l (c ∷ cs) = answer_at s now far l c ∷ fates_of s now far (after_one now far l c) cs

-- memory was refused for the next use: only the moment moved
abbrev pub IsRefused : ℕ → ℕ → Ledger → Option Use → Ledger → Type 0
IsRefused now far l None after = ⊥
IsRefused now far l (Some c) after = (after.held ≡ reached l.held now far c) × (after.beside ≡ live l.beside (reached l.held now far c).moment)

-- A member: the uses beside its record; its validator ID; for how many seconds at most a use that it missed may live; the number
-- of the last value that it has read whole, how many uses of the next one it has read, the number of the last value that its
-- earlier lives may have read; and the moment before which it accepts nothing.
pub record MemberState : Type 0 where
  pub beside : Uses
  pub validator_id : List ℕ
  pub lasts : ℕ
  pub passed : ℕ
  pub begun : ℕ
  pub ready : ℕ
  pub deaf : ℕ

-- it is stored as its fields
abbrev pub member_code : Coded MemberState
member_code =
    code_by (Uses × (List ℕ × (ℕ × (ℕ × (ℕ × (ℕ × ℕ)))))) (coded× uses_code (coded× (coded_list coded_ℕ) (coded× coded_ℕ (coded× coded_ℕ (coded× coded_ℕ (coded× coded_ℕ coded_ℕ))))))
    (λ m. (m.beside, (m.validator_id, (m.lasts, (m.passed, (m.begun, (m.ready, m.deaf)))))))
    (λ p. record { beside = p.0; validator_id = p.1.0; lasts = p.1.1.0; passed = p.1.1.1.0; begun = p.1.1.1.1.0; ready = p.1.1.1.1.1.0; deaf = p.1.1.1.1.1.1 }) (λ _. refl)

-- whether a value follows the last one that was read whole
abbrev pub order_of : (passed position : ℕ) → Order
order_of passed position = if nat_lt passed position then (if nat_lt passed (position - 1) then Gap else Next) else Again

-- a member before a value: where values are missing, it accepts nothing until everything that it missed has expired
abbrev pub arrived : MemberState → (moment position : ℕ) → MemberState
arrived m moment position =
    if nat_lt m.passed (position - 1) then record { beside = m.beside; validator_id = m.validator_id; lasts = m.lasts; passed = position - 1; begun = 0; ready = m.ready; deaf = max m.deaf (horizon moment m.lasts) }
    else m

-- what decides whether it accepts the first claims of this value
abbrev pub standing : MemberState → ℕ → Standing
standing m position = record { validator_id = m.validator_id; fresh = nat_lt m.ready position; deaf = m.deaf }

-- a member that has read so many of the uses that were left of a value, and has these uses beside its record
abbrev pub advanced : MemberState → (position count left : ℕ) → Uses → MemberState
advanced m position count left beside =
    if nat_lt count left then record { beside = beside; validator_id = m.validator_id; lasts = m.lasts; passed = m.passed; begun = m.begun + count; ready = m.ready; deaf = m.deaf }
    else record { beside = beside; validator_id = m.validator_id; lasts = m.lasts; passed = position; begun = 0; ready = m.ready; deaf = m.deaf }

-- what is left of a value, by how many of the uses that were left were read, and how many there was room for
abbrev pub rest_of : (count left room : ℕ) → Rest
rest_of count left room = if nat_lt count left then (if nat_lt count room then NoMemory else NoRoom) else Nothing

-- a value that was read before
abbrev pub read_again : Reading
read_again = record { order = Again; from = 0; count = 0; rest = Nothing }

-- A member with this record read a value, from where it was in it, until the value, the room or the memory ended.
pub record HasRead (now far position : ℕ) (m : MemberState) (x : State) (uses : List Use) (room : List Fate) (r : Reading) (m_new : MemberState) (x_new : State) (written : List Fate) : Type 0 where
  pub order : r.order ≡ order_of m.passed position
  pub from : r.from ≡ (arrived m (max x.moment now) position).begun
  pub few : r.count ≤ length (drop r.from uses)
  pub rest : r.rest ≡ rest_of r.count (length (drop r.from uses)) (length room)
  pub roomy : r.count ≤ length room
  pub fates : written ≡ fates_of (standing (arrived m (max x.moment now) position) position) now far (record { held = x; beside = m.beside }) (take r.count (drop r.from uses)) ++ drop r.count room
  pub read : r.rest ≢ NoMemory → record { held = x_new; beside = m_new.beside } ≡ after_all now far (record { held = x; beside = m.beside }) (take r.count (drop r.from uses))
  pub refused : r.rest ≡ NoMemory → IsRefused now far (after_all now far (record { held = x; beside = m.beside }) (take r.count (drop r.from uses))) (slice_get (drop r.from uses) r.count) (record { held = x_new; beside = m_new.beside })
  pub member : m_new ≡ advanced (arrived m (max x.moment now) position) position r.count (length (drop r.from uses)) m_new.beside
