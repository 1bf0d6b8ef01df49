-- The key of a token, which identifies the token.
use Rattle.std.specs.Prelude.{ℕ, List, [], ◌∷◌, ◌++◌, length, Option, Some, None}
use Rattle.std.specs.Int.{to_be_bytes, w32}

-- the text whose SHA-256 digest is a token's key: by its `jti` within the trust domain, or by its signing input
-- where it has no `jti` or an empty one; the first byte tells which
abbrev pub token_text : List ℕ → Option (List ℕ) → List ℕ → List ℕ
token_text domain (Some (byte ∷ bytes)) input =
    1 ∷ (to_be_bytes w32 (length domain) ++ domain ++ byte ∷ bytes)
token_text domain (Some []) input = 0 ∷ input
token_text domain None input = 0 ∷ input
