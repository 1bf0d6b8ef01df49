-- A run of one validator, and a take of a whole record, as events of a group.
use Rattle.std.specs.Prelude.{◌≡◌, ◌⊎◌, ℕ, ◌<◌, Bool, List, [], ◌∷◌, ◌++◌, Option, Some, Result, Ok, Err, slice_get}
use Rattle.std.specs.List.{AllByRecursion}
use Rattle.svid_replay.specs.Batches.{BatchData, IsBatch}
use Rattle.svid_replay.specs.Buckets.{raised_to}
use Rattle.svid_replay.specs.Parts.{join_all}
use Rattle.svid_replay.specs.Records.{State, state_of}
use Rattle.svid_check.specs.declared.answer.Answer.{Answer}
use Rattle.svid_check.specs.declared.answer.Answer.TheVariants.{Checked, Ticked, Taken, Withdrawn}
use Rattle.svid_check.specs.declared.event.Event.{Event as Call}
use Rattle.svid_check.specs.declared.event.Event.TheVariants as call
use Rattle.svid_check.specs.declared.take_fault.TakeFault.{TakeFault}
use Rattle.svid_check.specs.Changes.{Takes, TakesRecord}
use Rattle.svid_check.specs.Events.{entries}
use Rattle.svid_check.specs.Runs.{RunsFrom, Terms}
use Rattle.svid_check.specs.World.{Check, Entry, Event, Posting, Take, Tick, Took, Withdraw, World, answer_at, far, happen, happens, parts_in, setting_at, start, withdrawal_at}

-- a batch is part p of posting k
abbrev pub IsPart : List Posting → ℕ → ℕ → BatchData → Type 0
IsPart pool k p b = (q : Posting) × (slice_get pool k ≡ Some q) × (slice_get (parts_in q.content) p ≡ Some b)

-- the batches are these parts, each with the number of its posting and its own, one for each in their order
abbrev pub ArePlaced : List Posting → List (ℕ × ℕ) → List BatchData → Type 0
ArePlaced pool [] [] = Unit {0}
ArePlaced pool (index ∷ indexes) (b ∷ batches) = IsPart pool index.0 index.1 b × ArePlaced pool indexes batches
ArePlaced pool _ _ = ⊥

-- if the call takes a batch, that was posted
abbrev pub IsPosted : List Posting → Call → Type 0
IsPosted pool (call.Take now batch) = (k : ℕ) × (p : ℕ) × IsPart pool k p batch.now
IsPosted pool _ = Unit {0}

-- each batch that the calls take was posted
abbrev pub ArePosted : List Posting → List Call → Type 0
ArePosted pool [] = Unit {0}
ArePosted pool (c ∷ calls) = IsPosted pool c × ArePosted pool calls

module _ (group : ℕ → Terms) (v : ℕ) where
  -- the terms of validator v
  abbrev pub terms_at : World → Terms
  terms_at w = record { setting = setting_at group w v; ahead = (group v).ahead }

  -- the event is this call of validator v, with this answer, for some memory that was refused
  abbrev pub IsCall : World → Call → Answer → Event → Type 0
  IsCall w (call.Check now token) (Checked answer) e = (refused : Bool) × (e ≡ Check v now token.now refused) × (answer_at group w v now token.now refused ≡ answer)
  IsCall w (call.Tick now) Ticked e = e ≡ Tick v now
  IsCall w (call.Take now batch) (Taken answer) e = (k : ℕ) × (p : ℕ) × (refused : Option ℕ) × IsPart w.pool k p batch.now × (e ≡ Take v now k p refused)
      × Takes (raised_to (w.members v).held now) (far group v now) batch.now answer ((happens group w e).members v).held
      × (((happens group w e).members v).log ≡ (w.members v).log ++ entries (Took k p) answer)
  IsCall w (call.Withdraw now key exp) (Withdrawn answer) e = (refused : Bool) × (e ≡ Withdraw v now key exp refused) × (withdrawal_at group w v now key exp refused ≡ answer)
  IsCall w _ _ e = ⊥

  -- the events are these calls with these answers, one for each in their order
  abbrev pub AreCalls : World → List Call → List Answer → List Event → Type 0
  AreCalls w [] [] [] = Unit {0}
  AreCalls w (c ∷ calls) (a ∷ answers) (e ∷ events) = IsCall w c a e × AreCalls (happens group w e) calls answers events
  AreCalls w _ _ _ = ⊥

-- a run of a validator of a group, which takes batches that were posted, is a list of events of it, which leaves the record that the run does
abbrev pub RunsAreEvents : Type 0
RunsAreEvents = (group : ℕ → Terms) (before : List Event) (v : ℕ) (calls : List Call) (answers : List Answer) (b : State)
    → let w = happen group start before in
    ArePosted w.pool calls → RunsFrom (terms_at group v w) (w.members v).held calls answers b
    → (events : List Event) × AreCalls group v w calls answers events × (((happen group w events).members v).held ≡ b)

-- Whole records.

-- the entries of these parts
abbrev pub took_all : List (ℕ × ℕ) → List Entry
took_all [] = []
took_all (index ∷ indexes) = Took index.0 index.1 ∷ took_all indexes

-- what taking a record adds to a log: an entry for each of its parts, where it was taken
abbrev pub whole_entries : List (ℕ × ℕ) → Result (Unit {0}) TakeFault → List Entry
whole_entries indexes (Ok taken) = took_all indexes
whole_entries indexes (Err fault) = []

-- the events are takes of these parts by validator v at this moment, one for each in their order
abbrev pub AreTakes : ℕ → ℕ → List (ℕ × ℕ) → List Event → Type 0
AreTakes v now [] [] = Unit {0}
AreTakes v now (index ∷ indexes) (e ∷ events) = ((refused : Option ℕ) × (e ≡ Take v now index.0 index.1 refused)) × AreTakes v now indexes events
AreTakes v now _ _ = ⊥

-- a validator that takes the record of batches that were posted ticks and takes each of them, for some memory that was refused; or it ticks, if the
-- record is past the horizon
abbrev pub RecordTakesAreEvents : Type 0
RecordTakesAreEvents = (group : ℕ → Terms) (w : World) (v now : ℕ) (indexes : List (ℕ × ℕ)) (batches : List BatchData) (answer : Result (Unit {0}) TakeFault) (y : State)
    → let r = join_all (state_of 0 []) batches in
    ArePlaced w.pool indexes batches → AllByRecursion IsBatch batches → TakesRecord (raised_to (w.members v).held now) (far group v now) r answer y
    → (takes : List Event) × (AreTakes v now indexes takes ⊎ ((far group v now < r.moment) × (takes ≡ [])))
    × (let x = (happen group w (Tick v now ∷ takes)).members v in (x.held ≡ y) × (x.log ≡ (w.members v).log ++ whole_entries indexes answer))
