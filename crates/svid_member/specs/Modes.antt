-- What the modes ask for.
use Rattle.std.specs.Prelude.{Bool, true, false, if◌then◌else◌}
use Rattle.svid_member.specs.declared.mode.Mode.{Mode}
use Rattle.svid_member.specs.declared.mode.Mode.TheVariants.{Once, Strict, Bound, Reuse}
use Rattle.svid_requests.specs.declared.needs.Needs.{Needs}
use Rattle.svid_requests.specs.declared.needs.Needs.TheVariants.{Nothing, Write, Claim}

-- what an acceptance needs, where there is a state folder or not
abbrev pub needs_of : Mode → Bool → Needs
needs_of Once kept = if kept then Write else Nothing
needs_of Strict kept = Claim
needs_of Bound kept = Claim
needs_of Reuse kept = Nothing

-- the record gains the use of a token as it is judged
abbrev pub adds_at_judgment : Mode → Bool
adds_at_judgment Once = true
adds_at_judgment Strict = false
adds_at_judgment Bound = false
adds_at_judgment Reuse = false

-- the record gains the use of a token whose claim counts
abbrev pub adds_at_claim : Mode → Bool
adds_at_claim Once = false
adds_at_claim Strict = true
adds_at_claim Bound = false
adds_at_claim Reuse = false

-- a token is claimed for its caller, and not for a life of the member
abbrev pub is_bound : Mode → Bool
is_bound Once = false
is_bound Strict = false
is_bound Bound = true
is_bound Reuse = false
