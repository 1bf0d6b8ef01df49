-- What the calls on claims answer.
use Rattle.std.specs.Prelude.{ℕ, List}
use Rattle.svid_claims.specs.declared.claim.Claim.{Claim}
use Rattle.svid_claims.specs.declared.claim.Found.{Found}
use Rattle.svid_claims.specs.declared.outcome.Outcome.{Outcome}
use Rattle.svid_claims.specs.declared.outcome.Outcome.TheVariants.{Withdrawn, Taken, Far, Deaf, Expired, Mine}
use Rattle.svid_claims.specs.declared.owner.Owner.{Owner}

-- what becomes of a claim, as a status
abbrev pub outcome_number : Outcome → ℕ
outcome_number Mine = 0
outcome_number Withdrawn = 56
outcome_number Taken = 57
outcome_number Far = 58
outcome_number Deaf = 59
outcome_number Expired = 60

-- an owner, a claim and an answer by their parts
abbrev pub owner_by : List ℕ → Owner
owner_by bytes = record { bytes = bytes }

abbrev pub claim_by : List ℕ → ℕ → Claim
claim_by owner exp = record { owner = owner_by owner; exp = exp }

abbrev pub found_by : List ℕ → (time deaf : ℕ) → Found
found_by owner time deaf = record { owner = owner_by owner; time = time; deaf = deaf }
