-- Tables of refusals: which refusal is answered, and what a reader may answer by one.
use Rattle.std.specs.Prelude.{◌≡◌, Bool, false, if◌then◌else◌, is_none, List, [], ◌∷◌, Option, Some, None, Result, Ok, Err}
use Rattle.svid_token.specs.declared.refusal.Refusal.{Refusal}
use Rattle.svid_token.specs.declared.refusal.Refusal.TheVariants.{OutOfMemory}

-- a refusal, and whether it holds
abbrev pub Row : Type 0
Row = Refusal × Bool

-- the refusal of the first row that holds
abbrev pub first_row : List Row → Option Refusal
first_row [] = None
first_row (row ∷ rows) = if row.1 then Some row.0 else first_row rows

-- what is said, unless it is refused
abbrev pub judged : {A : Type 0} → Option Refusal → A → Result A Refusal
judged None said = Ok said
judged (Some refusal) said = Err refusal

-- a condition on a thing, false where the thing is not there
abbrev pub holds_of : {A : Type 0} → Option A → (A → Bool) → Bool
holds_of None condition = false
holds_of (Some thing) condition = condition thing

-- a thing is there, and a reading of it gives nothing
abbrev pub fails : {A B : Type 0} → (A → Option B) → Option A → Bool
fails read thing = holds_of thing (λ x. is_none (read x))

-- an answer, its value seen as contracts see it
abbrev pub seen : {A B : Type 0} → (A → B) → Result A Refusal → Result B Refusal
seen view (Ok value) = Ok (view value)
seen view (Err refusal) = Err refusal

-- a refusal is the one that is due, or memory ran out
abbrev pub Refuses : {A : Type 0} → Refusal → Result A Refusal → Type 0
Refuses OutOfMemory due = Unit {0}
Refuses refusal due = due ≡ Err refusal

-- an answer is the one that is due, its value seen as contracts see it, or memory ran out
abbrev pub Answers : {A B : Type 0} → (A → B) → Result A Refusal → Result B Refusal → Type 0
Answers view (Ok value) due = due ≡ Ok (view value)
Answers view (Err refusal) due = Refuses refusal due
