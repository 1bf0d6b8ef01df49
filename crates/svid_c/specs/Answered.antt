-- A verifier of the answers that a caller brings.
use Rattle.std.specs.Prelude.{ℕ, Bool, List}
use Rattle.svid_token.specs.declared.alg.Alg.{Alg}
use Rattle.svid_keys.specs.Key.{KeyData}
use Rattle.svid_keys.specs.Table.{table_says}
use Rattle.svid_check.specs.Verifiers.{Finding, finding_says}
use Rattle.svid_c.specs.declared.answered.Answered.{Answered}
use Rattle.svid_c.specs.declared.answered.Answered.TheVariants as answered

-- it says yes to just the questions that are given
abbrev pub says_yes : List (List ℕ) → KeyData → Alg → List ℕ → List ℕ → Bool
says_yes given = table_says given

-- the finding that this key made this signature over these bytes
abbrev pub finding_of : List ℕ → List ℕ → List ℕ → Finding
finding_of key input signature = record { key = key; input = input; signature = signature }

-- what it says, by what it was given
abbrev pub says_of : Answered → KeyData → Alg → List ℕ → List ℕ → Bool
says_of (answered.Questions given) = says_yes given.now
says_of (answered.Finding key input signature) = finding_says (finding_of key.now input.now signature.now)
