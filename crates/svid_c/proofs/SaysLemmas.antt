-- Lemmas about specs/Says.antt.
use Rattle.std.proofs.Common.{◌≡◌, ℕ, List, length, map, refl}
use Rattle.std.proofs.lemmas.List.{length-map}
use Rattle.svid_check.specs.Said.{Said}
use Rattle.svid_check.specs.Verdict.{key_of}
use Rattle.svid_c.specs.Says.{said_seen, texts_of}
use Rattle.svid_c.specs.declared.token_says.SvidSaid.{SvidSaid}

-- the answer about a token is its key, a time and a number of texts
pub said_told : (t : Said) (key : List ℕ) (lens : List ℕ) → key ≡ key_of t → lens ≡ map length (texts_of t)
    → (let said : SvidSaid = record { key = key; exp = t.exp; texts = length lens } in said ≡ said_seen t)
said_told t key lens is are =
    let same : length lens ≡ length (texts_of t) = rw are (length-map (texts_of t) length) in
    rw is (rw same refl)
