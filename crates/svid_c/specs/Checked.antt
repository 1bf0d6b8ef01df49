-- How C sees the outcome for a token.
use Rattle.std.specs.Prelude.{◌≡◌, ℕ, List, Some}
use Rattle.svid_token.specs.Compact.{compact_rows}
use Rattle.svid_token.specs.Rows.{first_row}
use Rattle.svid_token.specs.declared.refusal.Refusal.{Refusal}
use Rattle.svid_token.specs.declared.refusal.Refusal.TheVariants as refusal
use Rattle.svid_replay.specs.declared.token_use.Use.{Use}
use Rattle.svid_c.specs.declared.check.SvidUse.{SvidUse}

-- why a token is refused: 101 for the first of `Refusal`, and so on; 2 if out of memory
abbrev pub refusal_number : Refusal → ℕ
refusal_number refusal.OutOfMemory = 2
refusal_number refusal.TooLong = 101
refusal_number refusal.NotThreeParts = 102
refusal_number refusal.HeaderSpelling = 103
refusal_number refusal.HeaderNotObject = 104
refusal_number refusal.Crit = 105
refusal_number refusal.Alg = 106
refusal_number refusal.Typ = 107
refusal_number refusal.Kid = 108
refusal_number refusal.PayloadSpelling = 109
refusal_number refusal.PayloadNotObject = 110
refusal_number refusal.SignatureSpelling = 111
refusal_number refusal.Sub = 112
refusal_number refusal.Aud = 113
refusal_number refusal.Exp = 114
refusal_number refusal.Nbf = 115
refusal_number refusal.Jti = 116
refusal_number refusal.NotAudience = 117
refusal_number refusal.Expired = 118
refusal_number refusal.NotYet = 119
refusal_number refusal.TooLongLived = 120
refusal_number refusal.UnknownDomain = 121
refusal_number refusal.NoKey = 122
refusal_number refusal.BadSignature = 123
refusal_number refusal.Withdrawn = 124
refusal_number refusal.Replayed = 125

-- a token that is too long, or does not have three parts, is refused for exactly that, and never for lack of
-- memory
abbrev pub RefusesAs : List ℕ → Refusal → Type 0
RefusesAs token why = (refusal : Refusal) → first_row (compact_rows token) ≡ Some refusal → why ≡ refusal

-- the use of an acceptance, as C sees it
abbrev pub use_seen : Use → SvidUse
use_seen used = record { exp = used.exp; at = used.at; key = used.key; validator_id = used.validator_id }
