-- How contracts see what is read.
use Rattle.std.specs.Prelude.{Result, Ok, Err}
use Rattle.svid_bearer.specs.Read.{Found}
use Rattle.svid_bearer.specs.declared.bearer.Bearer.{Bearer}
use Rattle.svid_bearer.specs.declared.no_bearer.NoBearer.{NoBearer}

-- an answer, of the token its bytes
abbrev pub found : Result Bearer NoBearer → Result Found NoBearer
found (Ok bearer) = Ok (record { offset = bearer.at; token = bearer.token.now })
found (Err why) = Err why
