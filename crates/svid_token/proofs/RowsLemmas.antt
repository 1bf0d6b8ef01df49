-- The first row of two tables, one after the other.
use Rattle.std.proofs.Common.{◌≡◌, List, [], ◌∷◌, ◌++◌, true, false, refl}
use Rattle.std.specs.Option.{option_or}
use Rattle.svid_token.specs.Rows.{Row, first_row}

pub first_row-append : (first second : List Row) → first_row (first ++ second) ≡ option_or (first_row first) (first_row second)
first_row-append [] second = refl
first_row-append ((refusal, true) ∷ first) second = refl
first_row-append ((refusal, false) ∷ first) second = first_row-append first second
