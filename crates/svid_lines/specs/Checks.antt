-- The outcome of checking some tokens, one after the other.
use Rattle.std.specs.Prelude.{ℕ, ◌&&◌, Bool, true, false, nat_lt, filter, List, [], ◌∷◌, ◌++◌, codes, length, Option, Some, None, unwrap_or, Result, Ok, Err}
use Rattle.std.specs.Fmt.{decimal}
use Rattle.std.specs.List.{flat_map}
use Rattle.svid_id.specs.Id.{id_text}
use Rattle.svid_token.specs.declared.refusal.Refusal.{Refusal}
use Rattle.svid_replay.specs.Buckets.{raised_to}
use Rattle.svid_replay.specs.Records.{State, join, state_of}
use Rattle.svid_check.specs.Setting.{Setting}
use Rattle.svid_check.specs.Verdict.{verdict}
use Rattle.svid_check.specs.declared.accepted.Accepted.{Accepted}
use Rattle.svid_lines.specs.Refused.{refusal_line}

-- the verdict on a token
abbrev pub Judgement : Type 0
Judgement = Result (Option Accepted) Refusal

-- the tokens in lines: those that are not empty
abbrev pub tokens_of : List (List ℕ) → List (List ℕ)
tokens_of lines = filter (λ line. nat_lt 0 (length line)) lines

-- the verdict at the moment of the record, advanced to now
abbrev pub due : Setting → ℕ → State → List ℕ → Judgement
due s now x token = verdict s (raised_to x now).moment (raised_to x now).uses token

-- a record after a verdict: an acceptance adds its use
abbrev pub settled_by : State → Judgement → State
settled_by x (Ok (Some accepted)) = join x (state_of x.moment (accepted.used ∷ []))
settled_by x (Ok None) = x
settled_by x (Err refusal) = x

-- the record after the check of a token
abbrev pub after : Setting → ℕ → State → List ℕ → State
after s now x token = settled_by (raised_to x now) (due s now x token)

-- the record after the checks of all tokens
abbrev pub record_after : Setting → ℕ → State → List (List ℕ) → State
record_after s now x [] = x
record_after s now x (token ∷ tokens) = record_after s now (after s now x token) tokens

-- the verdicts on all tokens
abbrev pub judgements : Setting → ℕ → State → List (List ℕ) → List Judgement
judgements s now x [] = []
judgements s now x (token ∷ tokens) = due s now x token ∷ judgements s now (after s now x token) tokens

-- the token is accepted
abbrev pub is_accepted : Judgement → Bool
is_accepted (Ok accepted) = true
is_accepted (Err refusal) = false

-- each token is accepted
abbrev pub are_accepted : List Judgement → Bool
are_accepted [] = true
are_accepted (given ∷ others) = is_accepted given && are_accepted others

-- the line of a verdict: the ID of the subject and the expiry, or the name of the refusal
abbrev pub judgement_line : Judgement → Option (List ℕ)
judgement_line (Ok (Some accepted)) = Some (codes "accepted " ++ id_text accepted.id ++ 32 ∷ decimal accepted.used.exp ++ 10 ∷ [])
judgement_line (Ok None) = None
judgement_line (Err refusal) = refusal_line refusal

-- the lines of verdicts
abbrev pub judgement_lines : List Judgement → List ℕ
judgement_lines given = flat_map (λ judgement. unwrap_or (judgement_line judgement) []) given
