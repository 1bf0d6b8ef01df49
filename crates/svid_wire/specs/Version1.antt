-- Version 1 of messages, which has no withdrawals: its batches are read, and nothing is written in it.
use Rattle.std.specs.Prelude.{◌≡◌, ℕ, false, List, [], ◌∷◌}
use Rattle.svid_replay.specs.declared.token_use.Use.{Use}
use Rattle.svid_replay.specs.Use.{front_text}

-- what its messages begin with: `JSR`, and 1
abbrev pub old_magic : List ℕ
old_magic = 74 ∷ 83 ∷ 82 ∷ 1 ∷ []

-- the most uses that its batches may have
abbrev pub old_most : ℕ
old_most = 4096

-- it has no withdrawals
abbrev pub OldTells : Use → Type 0
OldTells u = u.withdrawn ≡ false

-- the 64 bytes of a use in it: those before the kind
abbrev pub old_use_text : Use → List ℕ
old_use_text u = front_text u
