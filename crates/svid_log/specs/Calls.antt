-- What a member does when it reads the values of a log by their numbers, as events of a group that reads the uses of these
-- values.
use Rattle.std.specs.Prelude.{◌≡◌, ℕ, zero, suc, ◌+◌, ◌-◌, ◌<◌, ◌≤◌, max, true, false, nat_lt, List, [], ◌∷◌, length, take, drop, slice_get, Some, flat_map, if◌then◌else◌}
use Rattle.svid_replay.specs.declared.token_use.Use.{Use}
use Rattle.svid_replay.specs.Records.{State}
use Rattle.svid_log.specs.declared.fate.Fate.{Fate}
use Rattle.svid_log.specs.declared.fate.Fate.TheVariants.{Accepted}
use Rattle.svid_log.specs.declared.reading.Reading.{Reading}
use Rattle.svid_log.specs.declared.reading.Rest.{Rest}
use Rattle.svid_log.specs.declared.reading.Rest.TheVariants.{Nothing, NoRoom, NoMemory}
use Rattle.svid_log.specs.Groups.{Accepts, Event, Miss, Read, Reader, Terms, World, far, happen, is_gone}
use Rattle.svid_log.specs.Members.{HasRead, MemberState}
use Rattle.svid_log.specs.Steps.{horizon}

-- the uses of the values of a log, one value after the other
abbrev pub uses_of : List (List Use) → List Use
uses_of values = flat_map (λ us. us) values

-- how many uses come before this one of the value after so many
abbrev pub index_in : List (List Use) → (passed begun : ℕ) → ℕ
index_in values passed begun = length (uses_of (take passed values)) + begun

-- A member that read these values, with its record, is a reader of the log of their uses: it has read as many, and its earlier
-- lives read no more than it knows.
pub record IsMember (values : List (List Use)) (m : MemberState) (x : State) (r : Reader) : Type 0 where
  pub held : r.held ≡ x
  pub beside : r.beside ≡ m.beside
  pub read : r.read ≡ index_in values m.passed m.begun
  pub ready : r.ready ≤ index_in values m.ready 0
  pub deaf : r.deaf ≡ m.deaf
  pub begun : (us : List Use) → slice_get values m.passed ≡ Some us → m.begun ≤ length us

-- how many uses a member misses that reads this value, and until when it accepts nothing then
abbrev pub gap_len : List (List Use) → MemberState → (position : ℕ) → ℕ
gap_len values m position = index_in values (position - 1) 0 - index_in values m.passed m.begun

abbrev pub gap_end : MemberState → State → (now : ℕ) → ℕ
gap_end m x now = horizon (max x.moment now) m.lasts

-- the premise of a gap: what is missed there has expired by then
abbrev pub IsGapGone : List (List Use) → MemberState → State → (now position : ℕ) → Type 0
IsGapGone values m x now position =
    m.passed < position - 1 → is_gone (gap_end m x now) (gap_len values m position) (drop (index_in values m.passed m.begun) (uses_of values)) ≡ true

-- the events by which a member gets to a value
abbrev pub arrival : ℕ → List (List Use) → MemberState → State → (now position : ℕ) → List Event
arrival v values m x now position = if nat_lt m.passed (position - 1) then Miss v (gap_len values m position) (gap_end m x now) ∷ [] else []

-- it reads so many uses at one time
abbrev pub reads_of : (v now count : ℕ) → List Event
reads_of v now zero = []
reads_of v now (suc n) = Read v now false ∷ reads_of v now n

-- memory was refused for the next use
abbrev pub refusal : (v now : ℕ) → Rest → List Event
refusal v now Nothing = []
refusal v now NoRoom = []
refusal v now NoMemory = Read v now true ∷ []

-- A call that reads a value does what these events do, and each use that the call accepts is accepted there by the group's
-- definition. This is exact where no earlier life may have read the value.
abbrev pub ReadsAreEvents : Type 0
ReadsAreEvents = (group : ℕ → Terms) (w : World) (v now : ℕ) (values : List (List Use)) (m m_new : MemberState) (x x_new : State) (position : ℕ) (uses : List Use) (room written : List Fate) (r : Reading)
    → w.log ≡ uses_of values → IsMember values m x (w.members v) → m.validator_id ≡ (group v).validator_id
    → m.passed < position → slice_get values (position - 1) ≡ Some uses → IsGapGone values m x now position
    → HasRead now (far group v now) position m x uses room r m_new x_new written
    → let a = happen group w (arrival v values m x now position) in
    let z = happen group (happen group a (reads_of v now r.count)) (refusal v now r.rest) in
    IsMember values m_new x_new (z.members v)
    × ((k : ℕ) (c : Use) → k < r.count → slice_get uses (r.from + k) ≡ Some c
    → let b = happen group a (reads_of v now k) in
    (slice_get written k ≡ Some Accepted → Accepts group b v now c) × (m.ready < position → Accepts group b v now c → slice_get written k ≡ Some Accepted))
