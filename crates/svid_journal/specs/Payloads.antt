-- The content of a payload: messages, or the position of a member in its log followed by messages.
use Rattle.std.specs.Prelude.{◌≡◌, ◌≢◌, ◌<◌, ◌^◌, ℕ, List, [], ◌∷◌, ◌++◌, codes, take}
use Rattle.std.specs.Int.{to_be_bytes, w64}
use Rattle.svid_journal.specs.declared.log_position.LogPosition.{LogPosition}

-- `JSL`, and the number of the version
abbrev pub position_magic : List ℕ
position_magic = 74 ∷ 83 ∷ 76 ∷ 1 ∷ []

-- 28 bytes: the first four of a position, and its three numbers, each with the most significant byte first
unfoldable pub position_text : LogPosition → List ℕ
position_text p = position_magic ++ (to_be_bytes w64 p.passed ++ (to_be_bytes w64 p.begun ++ to_be_bytes w64 p.deaf))

-- the bytes do not begin with a position
abbrev pub BeginsWithNoPosition : List ℕ → Type 0
BeginsWithNoPosition payload = (p : LogPosition) (messages : List ℕ) → payload ≢ position_text p ++ messages

-- numbers of 64 bits
abbrev pub IsIndex : LogPosition → Type 0
IsIndex p = (p.passed < 2 ^ 64) × (p.begun < 2 ^ 64) × (p.deaf < 2 ^ 64)

-- A position that is written is read back: the payload begins with this position only, and the same messages follow it.
abbrev pub PositionsAreReadBack : Type 0
PositionsAreReadBack = (p q : LogPosition) (messages others : List ℕ) → IsIndex p → IsIndex q → position_text p ++ messages ≡ position_text q ++ others → (p ≡ q) × (messages ≡ others)

-- A payload that begins with `JSR`, as each message does, has no position.
abbrev pub MessagesHaveNoPosition : Type 0
MessagesHaveNoPosition = (payload : List ℕ) → take 3 payload ≡ codes "JSR" → BeginsWithNoPosition payload
