-- What a token says, and the refusals of a token by itself (RFC 7515, RFC 7519; JWT-SVID).
use Rattle.std.specs.Prelude.{◌≡◌, ℕ, List, [], ◌++◌, Option, Some, None, IsSome, option_and_then, option_map, string_bytes, map, Result, Ok, Err}
use Rattle.svid_id.specs.Id.{IdParts}
use Rattle.svid_token.specs.Claims.{ClaimsSaid, claims_rows, claims_said}
use Rattle.svid_token.specs.Compact.{Parts, compact_rows, parts_of, signing_input}
use Rattle.svid_token.specs.Header.{HeaderSaid, header_rows, header_said}
use Rattle.svid_token.specs.Object.{part_object}
use Rattle.svid_token.specs.Part.{part_bytes}
use Rattle.svid_token.specs.Payload.{payload_rows}
use Rattle.svid_token.specs.Rows.{Row, first_row, judged}
use Rattle.svid_token.specs.Signature.{signature_rows}
use Rattle.svid_token.specs.declared.alg.Alg.{Alg}
use Rattle.svid_token.specs.declared.refusal.Refusal.{Refusal}
use Rattle.svid_check.specs.declared.reading.Reading.{Reading}

-- what a token says: of its header the algorithm and the key's name, its claims, its signature, and what that is made over
pub record Said : Type 0 where
  pub alg : Alg
  pub kid : Option (List ℕ)
  pub sub : IdParts
  pub aud : List (List ℕ)
  pub exp : ℕ
  pub nbf : Option ℕ
  pub jti : Option (List ℕ)
  pub signature : List ℕ
  pub input : List ℕ

-- what a header, claims, a signature and a signing input say, where all that must be there is there
abbrev pub said_by : HeaderSaid → ClaimsSaid → Option (List ℕ) → List ℕ → Option Said
said_by header claims bytes input =
    option_and_then (λ alg. option_and_then (λ signature. option_and_then (λ sub. option_and_then (λ aud. option_map (λ exp.
    record { alg = alg; kid = header.kid; sub = sub; aud = aud; exp = exp; nbf = claims.nbf; jti = claims.jti; signature = signature; input = input })
    claims.exp) claims.aud) claims.sub) bytes) header.alg

-- what the three parts of a token say
abbrev pub parts_say : Parts → Option Said
parts_say parts =
    said_by (header_said (part_object parts.header)) (claims_said (part_object parts.payload)) (part_bytes parts.signature)
    (signing_input parts.header parts.payload)

-- what a token says
abbrev pub said_of : List ℕ → Option Said
said_of token = option_and_then parts_say (parts_of token)

-- the refusals of the three parts of a token
abbrev pub parts_rows : Parts → List Row
parts_rows parts =
    header_rows parts.header
    ++ (payload_rows parts.payload ++ (signature_rows parts.signature ++ claims_rows (part_object parts.payload)))

-- the refusals of three parts, where there are three
abbrev pub rows_if_three : Option Parts → List Row
rows_if_three None = []
rows_if_three (Some parts) = parts_rows parts

-- a token that is too long, or has not three parts, is answered by just that: nothing may stand for it
abbrev pub RefusesForm : {A : Type 0} → List ℕ → Result A Refusal → Type 0
RefusesForm token answer = (refusal : Refusal) → first_row (compact_rows token) ≡ Some refusal → answer ≡ Err refusal

-- the refusals of a token by itself
abbrev pub token_rows : List ℕ → List Row
token_rows token = compact_rows token ++ rows_if_three (parts_of token)

-- the answer that is due to a token by itself
abbrev pub reading_of : List ℕ → Result (Option Said) Refusal
reading_of token = judged (first_row (token_rows token)) (said_of token)

-- a token that was read is neither too long nor without its three parts, so each answer to it keeps to that
abbrev pub ReadTokensHaveTheirForm : Type 0
ReadTokensHaveTheirForm = (token : List ℕ) (t : Said) → reading_of token ≡ Ok (Some t) → first_row (compact_rows token) ≡ None

-- a token that nothing refuses by itself says all that must be there
abbrev pub UnrefusedIsSaid : Type 0
UnrefusedIsSaid = (token : List ℕ) → first_row (token_rows token) ≡ None → IsSome (said_of token)

-- what contracts see of a token that was read
abbrev pub said_in : Reading → Said
said_in r = record {
  alg = r.header.alg;
  kid = option_map string_bytes r.header.kid;
  sub = r.claims.sub;
  aud = map string_bytes r.claims.aud.items;
  exp = r.claims.exp;
  nbf = r.claims.nbf;
  jti = option_map string_bytes r.claims.jti;
  signature = r.signature.items;
  input = r.input.items;
}

-- and it is there
abbrev pub reading_view : Reading → Option Said
reading_view r = Some (said_in r)
