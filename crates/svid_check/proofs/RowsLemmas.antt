-- Tables of refusals, one after the other.
use Rattle.std.proofs.Common.{◌≡◌, ◌⊎◌, inl, inr, Bool, true, false, List, ◌++◌, Option, None, Some, refl, sym, ap, ◌∙◌, if◌then◌else◌}
use Rattle.std.specs.Prelude.{IsSome, Result, Ok, Err, is_none, option_and_then}
use Rattle.std.specs.Option.{option_or}
use Rattle.svid_token.specs.Rows.{Row, Refuses, fails, first_row, judged}
use Rattle.svid_token.specs.declared.refusal.Refusal.{Refusal}
use Rattle.svid_token.specs.declared.refusal.Refusal.TheVariants as token
use Rattle.svid_token.proofs.RowsLemmas.{first_row-append}

-- where a value is due, nothing is refused, and it is what is said
pub judged-Ok : {A : Type 0} (found : Option Refusal) (said value : A) → judged found said ≡ Ok value → (found ≡ None) × (said ≡ value)
judged-Ok None said value is = (refl, cc)
judged-Ok (Some refusal) said value is = absurd (cc)

-- where a refusal is due, it was found
pub judged-Err : {A : Type 0} (found : Option Refusal) (said : A) (refusal : Refusal) → judged found said ≡ Err refusal → found ≡ Some refusal
judged-Err None said refusal is = absurd (cc)
judged-Err (Some other) said refusal is = cc

pub judged-None : {A : Type 0} (found : Option Refusal) (said value : A) → found ≡ None → said ≡ value → judged found said ≡ Ok value
judged-None found said value none is = rw (none, is) refl

pub judged-Some : {A : Type 0} (found : Option Refusal) (said : A) (refusal : Refusal) → found ≡ Some refusal → judged found said ≡ Err refusal
judged-Some found said refusal is = rw is refl

-- a table that refuses nothing leaves it to the next
pub passes : (first second : List Row) → first_row first ≡ None → first_row (first ++ second) ≡ first_row second
passes first second none = first_row-append first second ∙ ap (λ found. option_or found (first_row second)) none

-- the first table that refuses is followed
pub stops : (first second : List Row) (refusal : Refusal) → first_row first ≡ Some refusal → first_row (first ++ second) ≡ Some refusal
stops first second refusal is = first_row-append first second ∙ ap (λ found. option_or found (first_row second)) is

neither : (one other : Option Refusal) → option_or one other ≡ None → (one ≡ None) × (other ≡ None)
neither None other none = (refl, none)
neither (Some refusal) other none = absurd (cc)

-- where two tables refuse nothing, neither does
pub none_of_both : (first second : List Row) → first_row (first ++ second) ≡ None → (first_row first ≡ None) × (first_row second ≡ None)
none_of_both first second none = neither (first_row first) (first_row second) (sym (first_row-append first second) ∙ none)

-- a row that does not hold leaves it to the others
pub passed : (test : Bool) (refusal : Refusal) (others : Option Refusal) → (if test then Some refusal else others) ≡ None → (test ≡ false) × (others ≡ None)
passed true refusal others none = cc
passed false refusal others none = (refl, none)

-- what is not missing is there
pub there : {A : Type 0} (thing : Option A) → is_none thing ≡ false → IsSome thing
there None held = sym held
there (Some x) held = refl

-- and a reading that does not fail gives something
pub read_there : {A B : Type 0} (read : A → Option B) (thing : Option A) → IsSome thing → fails read thing ≡ false → IsSome (option_and_then read thing)
read_there read None is held = is
read_there read (Some x) is held = there (read x) held

-- what a refusal says where it is answered: that it is due, or nothing where memory ran out
pub told : {A B : Type 0} (refusal : Refusal) (one : Result A Refusal) (other : Result B Refusal) → (Refuses refusal one → (refusal ≡ token.OutOfMemory) ⊎ (one ≡ Err refusal)) × (other ≡ Err refusal → Refuses refusal other)
told token.OutOfMemory one other = (λ h. inl refl, λ h. tt)
told refusal one other = (λ h. inr h, λ h. h)

-- a refusal that is due may be answered
pub refused : {A : Type 0} (refusal : Refusal) (due : Result A Refusal) → due ≡ Err refusal → Refuses refusal due
refused refusal due is = (told refusal due due).1 is

-- a refusal of one thing is one of another, where it is due to the other when it is due to the one
pub refused_through : {A B : Type 0} (refusal : Refusal) (one : Result A Refusal) (other : Result B Refusal) → (one ≡ Err refusal → other ≡ Err refusal) → Refuses refusal one → Refuses refusal other
refused_through refusal one other through refuses = by_kind ((told refusal one other).0 refuses)
  where
    by_kind : (refusal ≡ token.OutOfMemory) ⊎ (one ≡ Err refusal) → Refuses refusal other
    by_kind (inl is) = rw is tt
    by_kind (inr is) = (told refusal one other).1 (through is)
