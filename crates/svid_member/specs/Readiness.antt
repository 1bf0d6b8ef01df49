-- When a member judges tokens, and when some are to be sent to it.
use Rattle.std.specs.Prelude.{Bool, true, false, not, ◌&&◌, ◌||◌, List, [], ◌∷◌, Option, Some, None, if◌then◌else◌}
use Rattle.svid_member.specs.declared.mode.Mode.{Mode}
use Rattle.svid_member.specs.declared.mode.Mode.TheVariants.{Once, Strict, Bound, Reuse}
use Rattle.svid_member.specs.declared.readiness.Readiness.{Readiness}
use Rattle.svid_member.specs.declared.unready.Unready.{Unready as Reason}
use Rattle.svid_member.specs.declared.unready.Unready.TheVariants.{Ended, NoBundle, Loading, StoreUnreached, WithdrawalsUnread, BrokerUnreached, GroupUnread, Draining, Jumped, KeepsNothing, StoreAway, Deaf}

-- a reason, and whether it holds
abbrev pub Row : Type 0
Row = Reason × Bool

-- the first reason that holds
abbrev pub first_reason : List Row → Option Reason
first_reason [] = None
first_reason (row ∷ rows) = if row.1 then Some row.0 else first_reason rows

-- a claim of a token tells whether it was withdrawn, so nobody reads the list
abbrev pub hears_by_claims : Mode → Bool
hears_by_claims Once = false
hears_by_claims Strict = true
hears_by_claims Bound = false
hears_by_claims Reuse = false

-- in this mode an acceptance is on the disk before it is answered
abbrev pub keeps_first : Mode → Bool
keeps_first Once = true
keeps_first Strict = false
keeps_first Bound = false
keeps_first Reuse = false

-- in this mode a token is claimed in the store before it is answered
abbrev pub claims_first : Mode → Bool
claims_first Once = false
claims_first Strict = true
claims_first Bound = true
claims_first Reuse = false

-- why no token is judged, in the order in which the reasons are reported
abbrev pub block_rows : Readiness → Mode → List Row
block_rows r mode =
    (Ended, r.ended)
    ∷ (NoBundle, not r.bundled)
    ∷ (Loading, not r.loaded)
    ∷ (StoreUnreached, not r.opened)
    ∷ (WithdrawalsUnread, not r.heard && not (hears_by_claims mode))
    ∷ (BrokerUnreached, not r.joined)
    ∷ (GroupUnread, not r.caught_up)
    ∷ []

abbrev pub blocks : Readiness → Mode → Option Reason
blocks r mode = first_reason (block_rows r mode)

-- what speaks against sending tokens to a member that judges them
abbrev pub doubt_rows : Readiness → Mode → List Row
doubt_rows r mode =
    (Draining, r.draining)
    ∷ (Jumped, r.jumped)
    ∷ (KeepsNothing, keeps_first mode && (r.unkept || r.full))
    ∷ (StoreAway, claims_first mode && r.away)
    ∷ (Deaf, claims_first mode && r.deaf)
    ∷ []

-- why no tokens are to be sent
abbrev pub or_else : Option Reason → Option Reason → Option Reason
or_else None other = other
or_else (Some reason) other = Some reason

abbrev pub doubts : Readiness → Mode → Option Reason
doubts r mode = or_else (blocks r mode) (first_reason (doubt_rows r mode))
