-- The compact form of a token (RFC 7515, section 7.1).
use Rattle.std.specs.Prelude.{◌≡◌, ◌≢◌, ℕ, ◌==◌, nat_lt, is_none, List, [], ◌∷◌, ◌++◌, length, All, Option, Some, None, Result}
use Rattle.std.specs.List.{slice_split}
use Rattle.svid_token.specs.Rows.{Row, first_row, judged}
use Rattle.svid_token.specs.declared.refusal.Refusal.{Refusal}
use Rattle.svid_token.specs.declared.refusal.Refusal.TheVariants.{TooLong, NotThreeParts}
use Rattle.svid_token.specs.declared.compact.Compact.{Compact}

-- the byte '.'
abbrev pub period : ℕ
period = 46

-- the most bytes of a token
abbrev pub most_token_bytes : ℕ
most_token_bytes = 65536

-- bytes in which no period stands
abbrev pub HasNoPeriod : List ℕ → Type 0
HasNoPeriod = All (λ b. b ≢ period)

-- a token is its header, payload and signature, joined by periods
pub record IsCompact (token header payload signature : List ℕ) : Type 0 where
  pub joined : token ≡ header ++ period ∷ (payload ++ period ∷ signature)
  pub header_whole : HasNoPeriod header
  pub payload_whole : HasNoPeriod payload
  pub signature_whole : HasNoPeriod signature

-- the three parts of a token
pub record Parts : Type 0 where
  pub header : List ℕ
  pub payload : List ℕ
  pub signature : List ℕ

-- the parts of a list that has three
abbrev pub three : List (List ℕ) → Option Parts
three (header ∷ payload ∷ signature ∷ []) = Some (record { header = header; payload = payload; signature = signature })
three _ = None

-- the parts of a token, cut at each period, if there are three
unfoldable pub parts_of : List ℕ → Option Parts
parts_of token = three (slice_split (λ b. b == period) token)

-- these are the parts of a token, by both definitions
abbrev pub AreParts : List ℕ → List ℕ → List ℕ → List ℕ → Type 0
AreParts token header payload signature = IsCompact token header payload signature
    × (parts_of token ≡ Some (record { header = header; payload = payload; signature = signature }))

-- what a signature is made over (RFC 7515, section 5.1)
abbrev pub signing_input : List ℕ → List ℕ → List ℕ
signing_input header payload = header ++ period ∷ payload

-- the refusals of a token by its form
abbrev pub compact_rows : List ℕ → List Row
compact_rows token =
    (TooLong, nat_lt most_token_bytes (length token))
    ∷ (NotThreeParts, is_none (parts_of token))
    ∷ []

-- the answer that is due to a token
abbrev pub compact_of : List ℕ → Result (Option Parts) Refusal
compact_of token = judged (first_row (compact_rows token)) (parts_of token)

-- what contracts see of a token that was split
abbrev pub compact_view : Compact → Option Parts
compact_view c = Some (record { header = c.header.now; payload = c.payload.now; signature = c.signature.now })
