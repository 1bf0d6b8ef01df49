-- What a validator does that reads a value of the log, as events of a group.
use Rattle.std.specs.Prelude.{◌≡◌, ◌+◌, ◌-◌, ℕ, zero, suc, ◌<◌, false, true, nat_lt, List, [], ◌∷◌, slice_get, Some, if◌then◌else◌}
use Rattle.svid_replay.specs.declared.token_use.Use.{Use}
use Rattle.svid_replay.specs.Records.{State}
use Rattle.svid_check.specs.Runs.{Terms}
use Rattle.svid_check.specs.World as check
use Rattle.svid_log.specs.declared.fate.Fate.{Fate}
use Rattle.svid_log.specs.declared.fate.Fate.TheVariants.{Accepted}
use Rattle.svid_log.specs.declared.reading.Reading.{Reading}
use Rattle.svid_log.specs.declared.reading.Rest.{Rest}
use Rattle.svid_log.specs.declared.reading.Rest.TheVariants.{Nothing, NoRoom, NoMemory}
use Rattle.svid_log.specs.Calls.{IsGapGone, IsMember, gap_end, gap_len, uses_of}
use Rattle.svid_log.specs.Members.{HasRead, MemberState}
use Rattle.svid_group.specs.World.{Accepts, Event, Miss, Read, World, happen, reader_at}

-- the events by which a validator comes to a value: it misses the uses in front of it, where values are missing
abbrev pub arrival : ℕ → List (List Use) → MemberState → State → (now position : ℕ) → List Event
arrival v values m x now position = if nat_lt m.passed (position - 1) then Miss v (gap_len values m position) (gap_end m x now) ∷ [] else []

-- it reads so many uses at one time
abbrev pub reads_of : (v now count : ℕ) → List Event
reads_of v now zero = []
reads_of v now (suc n) = Read v now false ∷ reads_of v now n

-- memory was refused for one more
abbrev pub refusal : (v now : ℕ) → Rest → List Event
refusal v now Nothing = []
refusal v now NoRoom = []
refusal v now NoMemory = Read v now true ∷ []

-- What a member of svid_log does that reads a value with its validator's record is what these events leave; and each use that it accepts is accepted in the group. Where the value is none that an earlier life may have read, that is exact.
abbrev pub ReadsAreEvents : Type 0
ReadsAreEvents = (group : ℕ → Terms) (w : World) (v now : ℕ) (values : List (List Use)) (m m_new : MemberState) (x_new : State) (position : ℕ) (uses : List Use) (room written : List Fate) (r : Reading)
    → let x = (w.group.members v).held in
    w.log ≡ uses_of values → IsMember values m x (reader_at w v) → m.validator_id ≡ (group v).setting.validator_id
    → m.passed < position → slice_get values (position - 1) ≡ Some uses → IsGapGone values m x now position
    → HasRead now (check.far group v now) position m x uses room r m_new x_new written
    → let a = happen group w (arrival v values m x now position) in
    let z = happen group (happen group a (reads_of v now r.count)) (refusal v now r.rest) in
    IsMember values m_new x_new (reader_at z v)
    × ((k : ℕ) (c : Use) → k < r.count → slice_get uses (r.from + k) ≡ Some c
    → let b = happen group a (reads_of v now k) in
    (slice_get written k ≡ Some Accepted → Accepts group b v now c) × (m.ready < position → Accepts group b v now c → slice_get written k ≡ Some Accepted))
