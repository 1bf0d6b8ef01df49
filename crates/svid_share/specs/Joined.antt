-- The join of the batches of all inputs.
use Rattle.std.specs.Prelude.{◌≡◌, ◌↔◌, ℕ, List, [], ◌∷◌, ◌++◌, max, Option, None, Some}
use Rattle.std.specs.List.{Contains, flat_map}
use Rattle.std.specs.List.{AllByRecursion}
use Rattle.svid_replay.specs.Batches.{BatchData, IsBatch}
use Rattle.svid_replay.specs.Parts.{join_all, parts_of}
use Rattle.svid_replay.specs.Records.{IsRecord, State, join, state_of}
use Rattle.svid_replay.specs.Uses.{uses_in, live}
use Rattle.svid_wire.specs.Messages.{batches_of}
use Rattle.svid_wire.specs.Streams.{Drawn}
use Rattle.svid_wire.specs.declared.message.Message.{Message}
use Rattle.svid_share.specs.Inputs.{IsWhole, AreWhole, all_of}

-- the greatest moment of the batches, 0 where there are none
abbrev pub greatest : List BatchData → ℕ
greatest [] = 0
greatest (batch ∷ batches) = max batch.moment (greatest batches)

-- the join of batches: their greatest moment, and of all their uses those that expire later
unfoldable pub joined : List BatchData → State
joined batches = record { moment = greatest batches; uses = live (uses_in (flat_map (λ batch. batch.uses) batches)) (greatest batches) }

-- both have the same batches, in any order and any number of times
abbrev pub HaveSame : List BatchData → List BatchData → Type 0
HaveSame batches others = (batch : BatchData) → Contains batches batch ↔ Contains others batch

-- the join of batches depends only on which batches there are
abbrev pub JoinedByWhich : Type 0
JoinedByWhich = (batches others : List BatchData) → HaveSame batches others → joined batches ≡ joined others

-- a record advanced to a moment, where one is given
abbrev pub raised_to : Option ℕ → State → State
raised_to None r = r
raised_to (Some now) r = join r (state_of now [])

-- an input is whole, and its batches were joined to a record, one after the other
pub record Joins (input : Drawn) (old new : State) : Type 0 where
  pub told : List Message
  pub whole : IsWhole input told
  pub joins : new ≡ join_all old (batches_of told)

-- all inputs are whole, and their batches were joined to a record, one after the other
pub record JoinsAll (inputs : List Drawn) (old new : State) : Type 0 where
  pub told : List (List Message)
  pub whole : AreWhole inputs told
  pub joins : new ≡ join_all old (all_of told)

-- batches joined one after the other to the join of earlier ones give the join of all
abbrev pub JoinedOneByOne : Type 0
JoinedOneByOne = (earlier batches : List BatchData) → join_all (joined earlier) batches ≡ joined (earlier ++ batches)

-- batches joined one after the other to a new record give their join
abbrev pub JoinedFromNothing : Type 0
JoinedFromNothing = (batches : List BatchData) → join_all (state_of 0 []) batches ≡ joined batches

-- the join of batches is a record
abbrev pub JoinedIsRecord : Type 0
JoinedIsRecord = (batches : List BatchData) → AllByRecursion IsBatch batches → IsRecord (joined batches)

-- the parts of a record join to that record
abbrev pub PartsComeToRecord : Type 0
PartsComeToRecord = (r : State) → IsRecord r → joined (parts_of r) ≡ r

-- the parts of the joins of several groups of batches join to the same record as the batches of all groups
abbrev pub PartsStandForBatches : Type 0
PartsStandForBatches = (groups : List (List BatchData)) → AllByRecursion (AllByRecursion IsBatch) groups → joined (flat_map (λ batches. parts_of (joined batches)) groups) ≡ joined (flat_map (λ batches. batches) groups)
