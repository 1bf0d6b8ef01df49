-- The bytes of owners.
use Rattle.std.specs.Prelude.{ℕ, Bool, List, ◌++◌, codes, replicate, take}
use Rattle.std.specs.Cmp.Lexicographic.{slice_cmp}
use Rattle.std.specs.Int.{to_be_bytes, w64}
use Rattle.std.specs.Ordering.{is_eq, nat_cmp}
use Rattle.sha2.specs.Sha256.{sha256}

-- what is hashed for a life of a validator, told by 16 bytes, and a token's expiry
abbrev pub life_text : List ℕ → ℕ → List ℕ
life_text life exp = codes "svid claim life" ++ (life ++ to_be_bytes w64 exp)

-- what is hashed for a caller, told by 32 bytes, and a token's expiry
abbrev pub caller_text : List ℕ → ℕ → List ℕ
caller_text caller exp = codes "svid claim caller" ++ (caller ++ to_be_bytes w64 exp)

-- the owner that a life claims for: the validator ID, and the first 16 bytes of the digest
abbrev pub owner_of_life : List ℕ → List ℕ → ℕ → List ℕ
owner_of_life validator_id life exp = validator_id ++ take 16 (sha256 (life_text life exp))

-- the owner that a caller's tokens are claimed for
abbrev pub owner_of_caller : List ℕ → ℕ → List ℕ
owner_of_caller caller exp = sha256 (caller_text caller exp)

-- the validator ID in the owner of a life
abbrev pub validator_of : List ℕ → List ℕ
validator_of owner = take 16 owner

-- the owner of a withdrawal
abbrev pub withdrawn : List ℕ
withdrawn = replicate 32 0

-- two rows of bytes are the same
abbrev pub same : List ℕ → List ℕ → Bool
same a b = is_eq (slice_cmp nat_cmp a b)
