-- A validator gets other audiences, as an event of a group.
use Rattle.std.specs.Prelude.{◌≡◌, ◌≢◌, ◌⊎◌, ℕ, ◌≤◌, List, [], ◌∷◌, None, Ok}
use Rattle.svid_replay.specs.declared.token_use.Use.{Use}
use Rattle.svid_replay.specs.Batches.{BatchData}
use Rattle.svid_replay.specs.Buckets.{raised_to}
use Rattle.svid_replay.specs.Parts.{parts_of}
use Rattle.svid_replay.specs.Records.{IsRecord, State, state_of}
use Rattle.svid_check.specs.Changes.{Takes}
use Rattle.svid_check.specs.Runs.{Terms}
use Rattle.svid_check.specs.Saves.{IsSaved}
use Rattle.svid_check.specs.Setting.{Setting}
use Rattle.svid_check.specs.World.{Renew, setting_at}
use Rattle.svid_log.specs.Calls.{IsMember}
use Rattle.svid_log.specs.Members.{MemberState}
use Rattle.svid_log.specs.Saves.{mark_of, restored, saved_of}
use Rattle.svid_log.specs.Steps.{AreSound}
use Rattle.svid_log.specs.Values.{uses_in}
use Rattle.svid_group.specs.World.{Call, Event, World, happen, happens, reader_at, start}

-- a setting with other audiences
abbrev pub with_own : Setting → List (List ℕ) → Setting
with_own s own = record { own = own; validator_id = s.validator_id; bundles = s.bundles; says = s.says; longest = s.longest }

-- the event: validator v is renewed, with these audiences, and with the bundles and the verifier that it has
abbrev pub readdress : (ℕ → Terms) → World → (v : ℕ) (own : List (List ℕ)) → Event
readdress group w v own = let s = setting_at group w.group v in Call (Renew v (record { own = own; bundles = s.bundles; says = s.says }))

-- from world w to world z, validator v got these audiences, and nothing else happened: its record, its position in the log, what it has learned, what
-- it noted, and the other validators are unchanged
pub record IsReaddressed (group : ℕ → Terms) (w : World) (v : ℕ) (own : List (List ℕ)) (z : World) : Type 0 where
  pub setting : setting_at group z.group v ≡ with_own (setting_at group w.group v) own
  pub reader : reader_at z v ≡ reader_at w v
  pub told : (z.group.members v).told ≡ (w.group.members v).told
  pub noted : (z.group.members v).log ≡ (w.group.members v).log
  pub others : (n : ℕ) → n ≢ v → z.group.members n ≡ w.group.members n
  pub asides : z.asides ≡ w.asides
  pub log : z.log ≡ w.log
  pub pool : z.group.pool ≡ w.group.pool
  pub saves : (z.group.saves ≡ w.group.saves) × (z.saved ≡ w.saved)

-- that is what the event leaves
abbrev pub AudiencesAlone : Type 0
AudiencesAlone = (group : ℕ → Terms) (w : World) (v : ℕ) (own : List (List ℕ)) → IsReaddressed group w v own (happens group w (readdress group w v own))

-- these batches carry a record: they are its parts, or pieces of it, and it is the same after the last piece as before the first
abbrev pub Carry : List BatchData → State → Type 0
Carry batches x = (batches ≡ parts_of x) ⊎ IsSaved x None batches x

-- a validator takes these one after the other at a time, and answers of each that it is taken: from this record to that one
abbrev pub TakesEach : (now far : ℕ) → State → List BatchData → State → Type 0
TakesEach now far x [] y = y ≡ x
TakesEach now far x (b ∷ batches) y = (next : State) × Takes (raised_to x now) far b (Ok tt) next × TakesEach now far next batches y

-- whatever record they carry, a new validator has it that takes them at no later time than the record has seen
abbrev pub RecordsAreTakenOver : Type 0
RecordsAreTakenOver = (x y : State) (batches : List BatchData) (now far : ℕ) → IsRecord x → Carry batches x → now ≤ x.moment → TakesEach now far (state_of 0 []) batches y → y ≡ x

-- a member that reads on from where another one is, with the uses beside its record, and after as many earlier lives
abbrev pub reads_on : MemberState → MemberState
reads_on m = restored m.validator_id m.lasts (mark_of m) m.ready (uses_in (saved_of m.beside))

-- so a new validator with other audiences that takes the record of validator v, and reads on where v is, is v after that event
abbrev pub SuccessorsGoOn : Type 0
SuccessorsGoOn = (group : ℕ → Terms) (events : List Event) (v : ℕ) (own : List (List ℕ)) (batches : List BatchData) (now far : ℕ) (y : State)
    → let w = happen group start events in
    let z = happens group w (readdress group w v own) in
    let x = (w.group.members v).held in
    Carry batches x → now ≤ x.moment → TakesEach now far (state_of 0 []) batches y
    → ((z.group.members v).held ≡ y)
    × ((values : List (List Use)) (m : MemberState) → AreSound m.beside → IsMember values m x (reader_at w v) → IsMember values (reads_on m) y (reader_at z v))
