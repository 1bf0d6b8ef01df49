-- What becomes of a claim by the answer to it.
use Rattle.std.specs.Prelude.{ℕ, ◌+◌, Bool, not, nat_lt, if◌then◌else◌, List, [], ◌∷◌}
use Rattle.svid_claims.specs.declared.claim.Claim.{Claim}
use Rattle.svid_claims.specs.declared.claim.Found.{Found}
use Rattle.svid_claims.specs.declared.outcome.Outcome.{Outcome}
use Rattle.svid_claims.specs.declared.outcome.Outcome.TheVariants.{Withdrawn, Taken, Far, Deaf, Expired, Mine}
use Rattle.svid_claims.specs.Owners.{same, withdrawn}

-- an outcome, and whether it holds
abbrev pub Row : Type 0
Row = Outcome × Bool

-- the outcome of the first row that holds, and `Mine` where none does
abbrev pub first_row : List Row → Outcome
first_row [] = Mine
first_row (row ∷ rows) = if row.1 then row.0 else first_row rows

-- what may stand against a claim, in the order in which it is looked for
abbrev pub outcome_rows : Claim → Found → (lasts moment : ℕ) → List Row
outcome_rows claim found lasts moment =
    (Withdrawn, same found.owner.bytes withdrawn)
    ∷ (Taken, not (same found.owner.bytes claim.owner.bytes))
    ∷ (Far, nat_lt (found.time + lasts) claim.exp)
    ∷ (Deaf, not (nat_lt found.deaf claim.exp))
    ∷ (Expired, not (nat_lt moment claim.exp))
    ∷ []

-- what becomes of a claim
abbrev pub outcome_of : Claim → Found → (lasts moment : ℕ) → Outcome
outcome_of claim found lasts moment = first_row (outcome_rows claim found lasts moment)
