-- What `svid candidates` prints.
use Rattle.std.specs.Prelude.{◌≡◌, ℕ, nat_lt, Bool, false, true, List, [], ◌∷◌, ◌++◌, find, length, Option, None, Some, unwrap_or, Result, Ok, Err, ◌⊎◌}
use Rattle.std.specs.List.{flat_map}
use Rattle.hex.specs.Hex.{encode_lower}
use Rattle.serde_json.specs.Data.{string}
use Rattle.serde_json.specs.Written.{compact_text}
use Rattle.svid_token.specs.Rows.{Row, first_row, judged}
use Rattle.svid_token.specs.declared.refusal.Refusal.{Refusal}
use Rattle.svid_keys.specs.Bundles.{Bundle}
use Rattle.svid_keys.specs.Key.{KeyData}
use Rattle.svid_keys.specs.Lines.{lines_of}
use Rattle.svid_keys.specs.Question.{question_of}
use Rattle.svid_check.specs.Said.{Said, said_of, token_rows}
use Rattle.svid_check.specs.Verdict.{keys_for, keys_rows, rows_if_said}
use Rattle.svid_wire.specs.Streams.{Drawn, IsRead, Taken, TookAll, TookPart}
use Rattle.svid_lines.specs.Bundles.{AreBundlesRead, AreBundlesRefused}
use Rattle.svid_lines.specs.Memory.{WantsMemoryFor}
use Rattle.svid_share.specs.Inputs.{IsUnread, most_bytes}
use Rattle.svid_lines.specs.Refused.{refusal_line}
use Rattle.svid_lines.specs.Shown.{shown_text}
use Rattle.svid_share.specs.declared.tool_fault.ToolFault.{ToolFault}
use Rattle.svid_share.specs.declared.tool_fault.ToolFault.TheVariants as tool

-- the first of some lines that is not empty; no bytes where each is empty
abbrev pub first_full : List (List ℕ) → List ℕ
first_full lines = unwrap_or (find (λ line. nat_lt 0 (length line)) lines) []

-- the token: the first line that is not empty
abbrev pub first_token : List ℕ → List ℕ
first_token text = first_full (lines_of text)

-- the refusals for which a token has no candidates: those of the token by itself, and then those for its keys
abbrev pub candidates_rows : List Bundle → List ℕ → List Row
candidates_rows bundles token = token_rows token ++ rows_if_said (keys_rows bundles) (said_of token)

-- the line of a candidate: the question for it, and its name as JSON that a terminal reads as text only
abbrev pub candidate_line : Said → KeyData → List ℕ
candidate_line t key = encode_lower (question_of key t.alg t.input t.signature) ++ 32 ∷ shown_text (compact_text (string key.kid)) ++ 10 ∷ []

-- the lines of the candidates for a token, in the order of the bundle's list
abbrev pub lines_for : List Bundle → Said → List ℕ
lines_for bundles t = flat_map (candidate_line t) (keys_for bundles t)

-- the lines for what a token says, where it says something
abbrev pub lines_if_said : List Bundle → Option Said → List ℕ
lines_if_said bundles None = []
lines_if_said bundles (Some t) = lines_for bundles t

-- the answer for a token: the lines of its candidates, or why there are none
unfoldable pub lines_due : List Bundle → List ℕ → Result (List ℕ) Refusal
lines_due bundles token = judged (first_row (candidates_rows bundles token)) (lines_if_said bundles (said_of token))

-- whether there are candidates
abbrev pub accepts : Result (List ℕ) Refusal → Bool
accepts (Ok lines) = true
accepts (Err refusal) = false

-- the output: the lines of the candidates, or the one line of the refusal; nothing when out of memory
abbrev pub printed : Result (List ℕ) Refusal → Option (List ℕ)
printed (Ok lines) = Some lines
printed (Err refusal) = refusal_line refusal

-- what was done to the two inputs of the engine
pub record Inputs : Type 0 where
  pub bundles : Drawn
  pub tokens : Drawn

-- both inputs were read, and this is the answer to them
pub record IsCandidatesAnswer (inputs : Inputs) (accepted : Bool) (text : List ℕ) : Type 0 where
  pub bundles : List Bundle
  pub tokens : List ℕ
  pub bundles_read : AreBundlesRead inputs.bundles bundles
  pub tokens_read : IsRead inputs.tokens most_bytes tokens
  pub accepts_as : accepted ≡ accepts (lines_due bundles (first_token tokens))
  pub prints : printed (lines_due bundles (first_token tokens)) ≡ Some text

-- the answer was written
pub record AreCandidatesPrinted (inputs : Inputs) (out : Taken) (accepted : Bool) : Type 0 where
  pub text : List ℕ
  pub answer : IsCandidatesAnswer inputs accepted text
  pub written : TookAll out text

-- a part of the answer was written
pub record AreCandidatesCut (inputs : Inputs) (out : Taken) : Type 0 where
  pub accepted : Bool
  pub text : List ℕ
  pub answer : IsCandidatesAnswer inputs accepted text
  pub part : TookPart out text

-- the second input could not be read, while the first one is bundles
pub record IsSecondRefused (inputs : Inputs) (fault : ToolFault) : Type 0 where
  pub bundles : List Bundle
  pub bundles_read : AreBundlesRead inputs.bundles bundles
  pub why : IsUnread 2 inputs.tokens fault

-- memory was refused for the second input or for the answer, while the first one is bundles
pub record IsSecondWanting (inputs : Inputs) : Type 0 where
  pub bundles : List Bundle
  pub bundles_read : AreBundlesRead inputs.bundles bundles
  pub why : WantsMemoryFor 2 inputs.tokens

-- memory was refused: for the first input, and the second one is as it was; or for the second one
abbrev pub IsWanting : Inputs → Type 0 → Type 0
IsWanting inputs tokens_kept = (WantsMemoryFor 1 inputs.bundles × tokens_kept) ⊎ IsSecondWanting inputs

-- why the inputs of the engine are refused; `IsWanting` covers out of memory
abbrev pub AreRefused : Inputs → ToolFault → Type 0
AreRefused inputs (tool.Bundles fault) = AreBundlesRefused inputs.bundles fault
AreRefused inputs tool.OutOfMemory = Unit {0}
AreRefused inputs given = IsUnread 1 inputs.bundles given ⊎ IsSecondRefused inputs given

-- when the engine gives up: the sink stopped, or an input was refused
abbrev pub IsCandidatesFault : Inputs → Taken → ToolFault → Type 0
IsCandidatesFault inputs out tool.Write = AreCandidatesCut inputs out
IsCandidatesFault inputs out given = AreRefused inputs given

-- the fault is one of the first input
abbrev pub IsOfFirst : ToolFault → Type 0
IsOfFirst (tool.Bundles fault) = Unit {0}
IsOfFirst (tool.Read input) = input ≡ 1
IsOfFirst (tool.TooMuch input) = input ≡ 1
IsOfFirst _ = ⊥
