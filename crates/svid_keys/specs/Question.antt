-- The question that a verifier of signatures is asked.
use Rattle.std.specs.Prelude.{ℕ, List, ◌++◌, length}
use Rattle.std.specs.Int.{to_be_bytes, w32}
use Rattle.sha2.specs.Sha256.{sha256}
use Rattle.svid_token.specs.Alg.{name_of}
use Rattle.svid_token.specs.declared.alg.Alg.{Alg}
use Rattle.svid_keys.specs.Key.{KeyData}

-- a field after its length in four bytes, the greatest first
abbrev pub field : List ℕ → List ℕ
field bytes = to_be_bytes w32 (length bytes) ++ bytes

-- the text of a question: the trust domain, the key, the algorithm, the signing input and the signature
abbrev pub question_text : KeyData → Alg → List ℕ → List ℕ → List ℕ
question_text key alg input signature =
    field key.domain ++ field key.text ++ field (name_of alg) ++ field input ++ field signature

-- a question is the digest of its text
abbrev pub question_of : KeyData → Alg → List ℕ → List ℕ → List ℕ
question_of key alg input signature = sha256 (question_text key alg input signature)
