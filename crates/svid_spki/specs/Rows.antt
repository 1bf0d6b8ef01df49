-- Tables of faults: which fault is answered, and what a reader may answer by one.
use Rattle.std.specs.Prelude.{◌≡◌, Bool, false, if◌then◌else◌, List, [], ◌∷◌, Option, Some, None, Result, Ok, Err}
use Rattle.svid_spki.specs.declared.key_fault.KeyFault.{KeyFault}
use Rattle.svid_spki.specs.declared.key_fault.KeyFault.TheVariants.{OutOfMemory}

-- a fault, and whether it holds
abbrev pub Row : Type 0
Row = KeyFault × Bool

-- the fault of the first row that holds
abbrev pub first_row : List Row → Option KeyFault
first_row [] = None
first_row (row ∷ rows) = if row.1 then Some row.0 else first_row rows

-- what is due, unless there is a fault
abbrev pub unless : {A : Type 0} → Option KeyFault → Result A KeyFault → Result A KeyFault
unless None due = due
unless (Some fault) due = Err fault

-- a condition on a thing, false where the thing is not there
abbrev pub holds_of : {A : Type 0} → Option A → (A → Bool) → Bool
holds_of None condition = false
holds_of (Some thing) condition = condition thing

-- a fault is the one that is due, or memory ran out
abbrev pub Refuses : {A : Type 0} → KeyFault → Result A KeyFault → Type 0
Refuses OutOfMemory due = Unit {0}
Refuses fault due = due ≡ Err fault

-- an answer is the one that is due, its value seen as contracts see it, or memory ran out
abbrev pub Answers : {A B : Type 0} → (A → B) → Result A KeyFault → Result B KeyFault → Type 0
Answers view (Ok value) due = due ≡ Ok (view value)
Answers view (Err fault) due = Refuses fault due
