-- The verdict on a token: a table of refusals, and the acceptance where none of them holds.
use Rattle.std.specs.Prelude.{◌≡◌, ◌≢◌, ◌≤◌, ℕ, ◌+◌, Bool, false, not, nat_lt, ◌==◌, List, [], ◌∷◌, ◌++◌, length, bytes_eq, Option, Some, None, is_none, option_map, Result, Ok}
use Rattle.std.specs.List.{list_any}
use Rattle.sha2.specs.Sha256.{sha256}
use Rattle.svid_token.specs.declared.refusal.Refusal.{Refusal}
use Rattle.svid_token.specs.declared.refusal.Refusal.TheVariants.{NotAudience, Expired, NotYet, TooLongLived, UnknownDomain, NoKey, BadSignature, Withdrawn, Replayed}
use Rattle.svid_token.specs.Rows.{Row, first_row, holds_of, judged}
use Rattle.svid_token.specs.TokenKey.{token_text}
use Rattle.svid_keys.specs.Bundles.{Bundle}
use Rattle.svid_keys.specs.Candidates.{bundle_at, candidates_of}
use Rattle.svid_keys.specs.Key.{KeyData}
use Rattle.svid_replay.specs.declared.token_use.Use.{Use}
use Rattle.svid_replay.specs.Uses.{Uses, has_use_of, has_withdrawal_of}
use Rattle.svid_check.specs.declared.accepted.Accepted.{Accepted}
use Rattle.svid_check.specs.Said.{Said, reading_of, said_of, token_rows}
use Rattle.svid_check.specs.Setting.{Setting}

-- the key of a token, which identifies the token
abbrev pub key_of : Said → List ℕ
key_of t = sha256 (token_text t.sub.domain t.jti t.input)

-- an audience is one of the validator's own, byte for byte (RFC 7519, section 4.1.3)
abbrev pub is_own : List (List ℕ) → List ℕ → Bool
is_own own name = list_any (bytes_eq name) own

-- the keys that may have signed a token
abbrev pub keys_for : List Bundle → Said → List KeyData
keys_for bundles t = candidates_of bundles t.sub.domain t.alg t.kid

-- some candidate made the signature, as the verifier says
abbrev pub is_signed : Setting → Said → Bool
is_signed s t = list_any (λ key. s.says key t.alg t.input t.signature) (keys_for s.bundles t)

-- the refusals of a token for its time (RFC 7519, sections 4.1.4 and 4.1.5; the last is the setting's own)
abbrev pub time_rows : Setting → ℕ → Said → List Row
time_rows s moment t =
    (Expired, not (nat_lt moment t.exp))
    ∷ (NotYet, holds_of t.nbf (λ nbf. nat_lt moment nbf))
    ∷ (TooLongLived, holds_of s.longest (λ longest. nat_lt (moment + longest) t.exp))
    ∷ []

-- the refusals of a token for its keys (JWT-SVID, section 4)
abbrev pub keys_rows : List Bundle → Said → List Row
keys_rows bundles t =
    (UnknownDomain, is_none (bundle_at t.sub.domain bundles))
    ∷ (NoKey, length (keys_for bundles t) == 0)
    ∷ []

-- the answer that is due to a token for its keys
abbrev pub keys_due : List Bundle → Said → Result (List KeyData) Refusal
keys_due bundles t = judged (first_row (keys_rows bundles t)) (keys_for bundles t)

-- the refusals of a key for the uses that the record has
abbrev pub record_rows : Uses → List ℕ → List Row
record_rows uses key =
    (Withdrawn, has_withdrawal_of uses key)
    ∷ (Replayed, has_use_of uses key)
    ∷ []

-- the refusals for a token that says this, by the setting, the moment and the uses
abbrev pub setting_rows : Setting → ℕ → Uses → Said → List Row
setting_rows s moment uses t =
    (NotAudience, not (list_any (is_own s.own) t.aud))
    ∷ (time_rows s moment t
    ++ (keys_rows s.bundles t
    ++ ((BadSignature, not (is_signed s t))
    ∷ record_rows uses (key_of t))))

-- the refusals for a token that says something, and none for one that says nothing
abbrev pub rows_if_said : (Said → List Row) → Option Said → List Row
rows_if_said rows None = []
rows_if_said rows (Some t) = rows t

-- the whole table
abbrev pub verdict_rows : Setting → ℕ → Uses → List ℕ → List Row
verdict_rows s moment uses token = token_rows token ++ rows_if_said (setting_rows s moment uses) (said_of token)

-- the use that an acceptance adds
abbrev pub use_of : Setting → ℕ → Said → Use
use_of s moment t = record { exp = t.exp; key = key_of t; validator_id = s.validator_id; at = moment; withdrawn = false }

-- an acceptance: the ID of the subject, and the use
abbrev pub acceptance : Setting → ℕ → Said → Accepted
acceptance s moment t = record { id = t.sub; used = use_of s moment t }

-- the verdict: the first refusal that holds, and else the acceptance with all that the token says, which then is there
unfoldable pub verdict : Setting → ℕ → Uses → List ℕ → Result (Option Accepted) Refusal
verdict s moment uses token = judged (first_row (verdict_rows s moment uses token)) (option_map (acceptance s moment) (said_of token))

-- the verdict on what a token says that was read: the first refusal that holds, and else the acceptance
unfoldable pub verdict_on : Setting → ℕ → Uses → Said → Result (Option Accepted) Refusal
verdict_on s moment uses t = judged (first_row (setting_rows s moment uses t)) (Some (acceptance s moment t))

-- a token that nothing refuses by itself has the verdict on what it says
abbrev pub ReadTokensHaveTheirVerdict : Type 0
ReadTokensHaveTheirVerdict = (s : Setting) (moment : ℕ) (uses : Uses) (token : List ℕ) (t : Said) → reading_of token ≡ Ok (Some t) → verdict s moment uses token ≡ verdict_on s moment uses t

-- no verdict accepts a token that does not say all
abbrev pub AcceptsNoSilence : Type 0
AcceptsNoSilence = (s : Setting) (moment : ℕ) (uses : Uses) (token : List ℕ) → verdict s moment uses token ≢ Ok None

-- the refusals of an accepted token, by its key and its expiry: the rows of the table that may begin to hold while the setting
-- stays
abbrev pub again_rows : ℕ → Uses → List ℕ → ℕ → List Row
again_rows moment uses key exp = (Expired, not (nat_lt moment exp)) ∷ record_rows uses key

-- an acceptance, made at another moment
abbrev pub made_at : ℕ → Accepted → Accepted
made_at moment a = record { id = a.id; used = record { exp = a.used.exp; key = a.used.key; validator_id = a.used.validator_id; at = moment; withdrawn = a.used.withdrawn } }

-- once a token was accepted, its use tells each later verdict on it, while the setting stays
abbrev pub AcceptedAreJudgedAgain : Type 0
AcceptedAreJudgedAgain = (s : Setting) (moment later : ℕ) (uses others : Uses) (token : List ℕ) (a : Accepted)
    → verdict s moment uses token ≡ Ok (Some a) → moment ≤ later
    → verdict s later others token ≡ judged (first_row (again_rows later others a.used.key a.used.exp)) (Some (made_at later a))
