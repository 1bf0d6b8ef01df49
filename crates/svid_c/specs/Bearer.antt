-- What a call answers about the bearer token of a request.
use Rattle.std.specs.Prelude.{◌≡◌, ℕ, List, length, Ok, Err}
use Rattle.svid_bearer.specs.Read.{Found, IsAnswer}
use Rattle.svid_bearer.specs.declared.no_bearer.NoBearer.{NoBearer}
use Rattle.svid_bearer.specs.declared.no_bearer.NoBearer.TheVariants as bearer
use Rattle.svid_c.specs.declared.bearer_token.SvidBearer.{SvidBearer}

-- why a request has no bearer token
abbrev pub bearer_number : NoBearer → ℕ
bearer_number bearer.Absent = 81
bearer_number bearer.Several = 82
bearer_number bearer.Scheme = 83
bearer_number bearer.Spelling = 84
bearer_number bearer.TooLong = 101

-- the answer is the offset and the length of the token, or why there is none
pub data Bears (fields : ℕ) (value : List ℕ) (status : ℕ) (told : SvidBearer) : Type 0 where
  borne : (f : Found) → IsAnswer fields value (Ok f) → status ≡ 0 → told ≡ record { at = f.offset; len = length f.token } → Bears fields value status told
  not_borne : (why : NoBearer) → IsAnswer fields value (Err why) → status ≡ bearer_number why → told ≡ record { at = 0; len = 0 } → Bears fields value status told
