-- What a call answers about what a token says.
use Rattle.std.specs.Prelude.{◌≡◌, ℕ, ◌<◌, ◌≤◌, ◌⊎◌, List, [], ◌∷◌, length, map, unwrap_or, Some, Ok}
use Rattle.std.specs.List.{concat}
use Rattle.svid_id.specs.Id.{id_text}
use Rattle.svid_token.specs.Alg.{name_of}
use Rattle.svid_token.specs.Rows.{Refuses}
use Rattle.svid_token.specs.declared.refusal.Refusal.{Refusal}
use Rattle.svid_token.specs.declared.refusal.Refusal.TheVariants.{OutOfMemory}
use Rattle.svid_check.specs.Said.{Said, reading_of}
use Rattle.svid_check.specs.Verdict.{key_of}
use Rattle.svid_c.specs.Checked.{RefusesAs, refusal_number}
use Rattle.svid_c.specs.Status.{told_length}
use Rattle.svid_c.specs.Written.{HasFirst}
use Rattle.svid_c.specs.declared.token_says.SvidSaid.{SvidSaid}
use Rattle.svid_c.specs.declared.told.SvidTold.{SvidTold}

-- the texts of a token: its algorithm, its subject, the trust domain of that, the name of its key, empty where it has none, and its audiences
abbrev pub texts_of : Said → List (List ℕ)
texts_of t = name_of t.alg ∷ (id_text t.sub ∷ (t.sub.domain ∷ (unwrap_or t.kid [] ∷ t.aud)))

-- the answer about it beside these
abbrev pub said_seen : Said → SvidSaid
said_seen t = record { key = key_of t; exp = t.exp; texts = length (texts_of t) }

-- texts stand first in one room, one directly after the other, and their lengths first in another one; or one of these is too short for
-- that, and all is as it was
pub data ArePut (texts : List (List ℕ)) (status : ℕ) (old_lens new_lens old_out new_out : List ℕ) : Type 0 where
  all_put : status ≡ 0 → length texts ≤ length old_lens → length (concat texts) ≤ length old_out
      → HasFirst (map length texts) old_lens new_lens → HasFirst (concat texts) old_out new_out → ArePut texts status old_lens new_lens old_out new_out
  none_put : status ≡ 1 → (length old_lens < length texts) ⊎ (length old_out < length (concat texts)) → new_lens ≡ old_lens → new_out ≡ old_out
      → ArePut texts status old_lens new_lens old_out new_out

-- the answer is what a token says, and its texts are written, or have no room; or the token is refused by itself; or memory was refused
pub data Says (token : List ℕ) (status : ℕ) (told : SvidTold) (old_said new_said : SvidSaid) (old_lens new_lens old_out new_out : List ℕ) : Type 0 where
  says : (t : Said) → reading_of token ≡ Ok (Some t) → ArePut (texts_of t) status old_lens new_lens old_out new_out → told ≡ told_length (length (concat (texts_of t)))
      → new_said ≡ said_seen t → Says token status told old_said new_said old_lens new_lens old_out new_out
  says_nothing : (why : Refusal) → Refuses why (reading_of token) → RefusesAs token why → status ≡ refusal_number why → told ≡ told_length 0
      → new_said ≡ old_said → new_lens ≡ old_lens → new_out ≡ old_out → Says token status told old_said new_said old_lens new_lens old_out new_out
  no_memory : (t : Said) → reading_of token ≡ Ok (Some t) → status ≡ refusal_number OutOfMemory → told ≡ told_length 0
      → new_said ≡ old_said → new_lens ≡ old_lens → new_out ≡ old_out → Says token status told old_said new_said old_lens new_lens old_out new_out
