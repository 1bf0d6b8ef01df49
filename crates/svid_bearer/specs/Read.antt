-- What the header fields 'Authorization' of a request are read as.
use Rattle.std.specs.Prelude.{◌≡◌, ℕ, ◌<◌, ◌≤◌, List, length, Result, Ok, Err}
use Rattle.svid_bearer.specs.Value.{Carries, IsBearer, scheme_of}
use Rattle.svid_bearer.specs.declared.no_bearer.NoBearer.{NoBearer}
use Rattle.svid_bearer.specs.declared.no_bearer.NoBearer.TheVariants.{Absent, Several, Scheme, Spelling, TooLong}

-- a token, and where it stands in the value of its field
pub record Found : Type 0 where
  pub offset : ℕ
  pub token : List ℕ

-- of so many fields, whose first has this value, this is the answer: a token of at most 65,536 bytes, or why there is none
abbrev pub IsAnswer : ℕ → List ℕ → Result Found NoBearer → Type 0
IsAnswer fields value (Ok found) =
    (fields ≡ 1) × Carries value found.offset found.token × (length found.token ≤ 65536)
IsAnswer fields value (Err Absent) = fields ≡ 0
IsAnswer fields value (Err Several) = 1 < fields
IsAnswer fields value (Err Scheme) = (fields ≡ 1) × (¬ IsBearer (scheme_of value))
IsAnswer fields value (Err Spelling) =
    (fields ≡ 1) × IsBearer (scheme_of value) × ((offset : ℕ) (token : List ℕ) → ¬ Carries value offset token)
IsAnswer fields value (Err TooLong) =
    (fields ≡ 1) × ((offset : ℕ) × (token : List ℕ) × Carries value offset token × (65536 < length token))
