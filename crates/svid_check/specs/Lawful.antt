-- What a group of validators needs of their verdicts.
use Rattle.std.specs.Prelude.{◌≡◌, ◌≢◌, ℕ, ◌<◌, ◌^◌, false, List, IsTrue, Option, Some, option_map, Ok}
use Rattle.svid_token.specs.Compact.{parts_of, signing_input}
use Rattle.svid_replay.specs.declared.token_use.Use.{Use}
use Rattle.svid_replay.specs.Sets.{holds}
use Rattle.svid_replay.specs.Use.{IsBytes, IsUse}
use Rattle.svid_replay.specs.Uses.{Uses}
use Rattle.svid_check.specs.declared.accepted.Accepted.{Accepted}
use Rattle.svid_check.specs.Setting.{Setting}
use Rattle.svid_check.specs.Verdict.{verdict}

-- the signing input of a token, if it has three parts (RFC 7515, section 5.1)
abbrev pub input_of : List ℕ → Option (List ℕ)
input_of token = option_map (λ parts. signing_input parts.header parts.payload) (parts_of token)

-- the verdict accepts the token, and this is the use that it adds
abbrev pub Accepts : Setting → ℕ → Uses → List ℕ → Use → Type 0
Accepts s moment uses token used = (accepted : Accepted) × (verdict s moment uses token ≡ Ok (Some accepted)) × (accepted.used ≡ used)

-- an accepted use is made at the moment
abbrev pub IsMadeNow : Type 0
IsMadeNow = (s : Setting) (moment : ℕ) (uses : Uses) (token : List ℕ) (u : Use) → Accepts s moment uses token u → u.at ≡ moment

-- an accepted use is no withdrawal
abbrev pub IsUsed : Type 0
IsUsed = (s : Setting) (moment : ℕ) (uses : Uses) (token : List ℕ) (u : Use) → Accepts s moment uses token u → u.withdrawn ≡ false

-- an accepted use expires later
abbrev pub IsAlive : Type 0
IsAlive = (s : Setting) (moment : ℕ) (uses : Uses) (token : List ℕ) (u : Use) → Accepts s moment uses token u → moment < u.exp

-- no use that is held has the key of an accepted one
abbrev pub IsFresh : Type 0
IsFresh = (s : Setting) (moment : ℕ) (uses : Uses) (token : List ℕ) (u held : Use) → Accepts s moment uses token u → IsTrue (holds uses held) → held.key ≢ u.key

-- one signing input gives one key and one expiry, whoever accepts it, and when
abbrev pub IsOfItsInput : Type 0
IsOfItsInput = (s other : Setting) (moment later : ℕ) (uses others : Uses) (token again : List ℕ) (u v : Use)
    → Accepts s moment uses token u → Accepts other later others again v → input_of token ≡ input_of again → (u.key ≡ v.key) × (u.exp ≡ v.exp)

-- an accepted use has the ranges of its fields, where the validator ID and the moment have theirs
abbrev pub IsInRange : Type 0
IsInRange = (s : Setting) (moment : ℕ) (uses : Uses) (token : List ℕ) (u : Use) → Accepts s moment uses token u → IsBytes 16 s.validator_id → moment < 2 ^ 64 → IsUse u
