-- All refusals in one table.
use Rattle.std.specs.Prelude.{List, Some, [], codes, is_none, is_some, length, nat_lt, not, ℕ, ◌+◌, ◌==◌, ◌||◌, ◌∷◌, ◌≡◌}
use Rattle.std.specs.List.{list_any}
use Rattle.svid_token.specs.Compact.{Parts, most_token_bytes, parts_of}
use Rattle.svid_token.specs.Part.{part_bytes}
use Rattle.svid_token.specs.Json.{as_time, member, object_of, time_at}
use Rattle.svid_token.specs.Object.{part_object}
use Rattle.svid_token.specs.Header.{alg_at, as_type}
use Rattle.serde_json.specs.Find.{as_str}
use Rattle.svid_token.specs.Claims.{audiences_at, subject_at}
use Rattle.svid_token.specs.declared.refusal.Refusal.TheVariants.{Alg, Aud, BadSignature, Crit, Exp, Expired, HeaderNotObject, HeaderSpelling, Jti, Kid, Nbf, NoKey, NotAudience, NotThreeParts, NotYet, PayloadNotObject, PayloadSpelling, Replayed, SignatureSpelling, Sub, TooLong, TooLongLived, Typ, UnknownDomain, Withdrawn}
use Rattle.svid_token.specs.Rows.{Row, fails, holds_of}
use Rattle.svid_keys.specs.Candidates.{bundle_at}
use Rattle.svid_replay.specs.Uses.{Uses, has_use_of, has_withdrawal_of}
use Rattle.svid_check.specs.Said.{Said, said_of}
use Rattle.svid_check.specs.Setting.{Setting}
use Rattle.svid_check.specs.Verdict.{is_own, is_signed, key_of, keys_for, verdict_rows}

-- the refusals of a token of the parts p that says t, in the order in which they are answered
abbrev pub whole_table : Setting → ℕ → Uses → List ℕ → Parts → Said → List Row
whole_table s moment uses token p t =
    (TooLong, nat_lt most_token_bytes (length token))
    ∷ (NotThreeParts, is_none (parts_of token))
    ∷ (HeaderSpelling, is_none (part_bytes p.header))
    ∷ (HeaderNotObject, fails object_of (part_bytes p.header))
    ∷ (Crit, is_some (member (codes "crit") (part_object p.header)))
    ∷ (Alg, fails alg_at (part_object p.header))
    ∷ (Typ, fails as_type (member (codes "typ") (part_object p.header)))
    ∷ (Kid, fails as_str (member (codes "kid") (part_object p.header)))
    ∷ (PayloadSpelling, is_none (part_bytes p.payload))
    ∷ (PayloadNotObject, fails object_of (part_bytes p.payload))
    ∷ (SignatureSpelling, (length p.signature == 0) || is_none (part_bytes p.signature))
    ∷ (Sub, fails subject_at (part_object p.payload))
    ∷ (Aud, fails audiences_at (part_object p.payload))
    ∷ (Exp, fails (time_at (codes "exp")) (part_object p.payload))
    ∷ (Nbf, fails as_time (member (codes "nbf") (part_object p.payload)))
    ∷ (Jti, fails as_str (member (codes "jti") (part_object p.payload)))
    ∷ (NotAudience, not (list_any (is_own s.own) t.aud))
    ∷ (Expired, not (nat_lt moment t.exp))
    ∷ (NotYet, holds_of t.nbf (λ nbf. nat_lt moment nbf))
    ∷ (TooLongLived, holds_of s.longest (λ longest. nat_lt (moment + longest) t.exp))
    ∷ (UnknownDomain, is_none (bundle_at t.sub.domain s.bundles))
    ∷ (NoKey, length (keys_for s.bundles t) == 0)
    ∷ (BadSignature, not (is_signed s t))
    ∷ (Withdrawn, has_withdrawal_of uses (key_of t))
    ∷ (Replayed, has_use_of uses (key_of t))
    ∷ []

-- the table of the verdict is this list, where a token has three parts and says something; where it does not, a row before `NotAudience` holds
abbrev pub TableIsOneList : Type 0
TableIsOneList = (s : Setting) (moment : ℕ) (uses : Uses) (token : List ℕ) (p : Parts) (t : Said) → parts_of token ≡ Some p → said_of token ≡ Some t → verdict_rows s moment uses token ≡ whole_table s moment uses token p t
