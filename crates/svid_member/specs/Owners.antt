-- The owners that a member keeps.
use Rattle.std.specs.Prelude.{◌≡◌, List}
use Rattle.std.specs.List.{All}
use Rattle.svid_claims.specs.Owners.{owner_of_caller}
use Rattle.svid_member.specs.declared.owners.Digested.{Digested}

-- what is kept is the owner of its caller and expiry
abbrev pub IsOwner : Digested → Type 0
IsOwner d = d.owner.bytes ≡ owner_of_caller d.caller d.exp

abbrev pub AreOwners : List Digested → Type 0
AreOwners ds = All IsOwner ds
