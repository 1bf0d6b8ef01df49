use Rattle.std.proofs.Common.{◌≡◌, ℕ, List, ◌++◌, Some, inl, inr, sym, ap, subst, ◌∙◌}
use Rattle.std.specs.Prelude.{Ok, Err}
use Rattle.std.specs.List.{flat_map}
use Rattle.svid_token.specs.Rows.{Refuses, first_row}
use Rattle.svid_token.specs.declared.refusal.Refusal.{Refusal}
use Rattle.svid_keys.specs.Bundles.{Bundle}
use Rattle.svid_keys.specs.Key.{KeyData}
use Rattle.svid_keys.specs.declared.bundle_fault.BundleFault.{BundleFault}
use Rattle.svid_wire.specs.Streams.{IsRead, Taken}
use Rattle.svid_wire.specs.declared.read_fault.ReadFault.{ReadFault}
use Rattle.svid_wire.specs.declared.read_fault.ReadFault.TheVariants as reading
use Rattle.svid_check.specs.Said.{Said, reading_of, said_of, token_rows}
use Rattle.svid_check.specs.Verdict.{keys_due, keys_for, keys_rows, rows_if_said}
use Rattle.svid_check.proofs.RowsLemmas.{judged-Err, judged-None, judged-Ok, judged-Some, passes, refused, refused_through, stops}
use Rattle.svid_lines.specs.Bundles.{AreBundlesRead, IsBundlesFault}
use Rattle.svid_lines.specs.Candidates.{AreRefused, Inputs, IsCandidatesFault, IsWanting, candidate_line, lines_due, lines_if_said}
use Rattle.svid_share.specs.Inputs.{IsUnread, most_bytes, read_fault_of}
use Rattle.svid_share.proofs.InputsLemmas.{not_write}
use Rattle.svid_share.specs.declared.tool_fault.ToolFault.{ToolFault}
use Rattle.svid_share.specs.declared.tool_fault.ToolFault.TheVariants as tool

-- a refusal of the token by itself is the answer
pub refused_token : (bundles : List Bundle) (token : List ℕ) (refusal : Refusal) → Refuses refusal (reading_of token) → Refuses refusal (lines_due bundles token)
unfolding lines_due
refused_token bundles token refusal =
    refused_through refusal (reading_of token) (lines_due bundles token) (λ is. judged-Some _ (lines_if_said bundles (said_of token)) refusal (stops (token_rows token) (rows_if_said (keys_rows bundles) (said_of token)) refusal (judged-Err (first_row (token_rows token)) (said_of token) refusal is)))

-- the content of a good token is judged for its keys
keys_found : (bundles : List Bundle) (token : List ℕ) (t : Said) → reading_of token ≡ Ok (Some t)
    → (first_row (token_rows token ++ rows_if_said (keys_rows bundles) (said_of token)) ≡ first_row (keys_rows bundles t)) × (said_of token ≡ Some t)
keys_found bundles token t is =
    let j = judged-Ok (first_row (token_rows token)) (said_of token) (Some t) is in
    (passes (token_rows token) (rows_if_said (keys_rows bundles) (said_of token)) j.0 ∙ ap (λ o. first_row (rows_if_said (keys_rows bundles) o)) j.1, j.1)

-- a refusal for its keys is the answer
pub refused_keys : (bundles : List Bundle) (token : List ℕ) (t : Said) (refusal : Refusal) → reading_of token ≡ Ok (Some t) → keys_due bundles t ≡ Err refusal → Refuses refusal (lines_due bundles token)
unfolding lines_due
refused_keys bundles token t refusal good is =
    refused refusal (lines_due bundles token) (judged-Some _ (lines_if_said bundles (said_of token)) refusal ((keys_found bundles token t good).0 ∙ judged-Err (first_row (keys_rows bundles t)) (keys_for bundles t) refusal is))

-- the lines of the candidates are the answer
pub lines_found : (bundles : List Bundle) (token : List ℕ) (t : Said) (keys : List KeyData) (text : List ℕ) → reading_of token ≡ Ok (Some t) → keys_due bundles t ≡ Ok keys → text ≡ flat_map (candidate_line t) keys → lines_due bundles token ≡ Ok text
unfolding lines_due
lines_found bundles token t keys text good found is =
    let j = judged-Ok (first_row (keys_rows bundles t)) (keys_for bundles t) keys found in
    let k = keys_found bundles token t good in
    judged-None _ (lines_if_said bundles (said_of token)) text (k.0 ∙ j.0) (ap (λ o. lines_if_said bundles o) k.1 ∙ ap (λ ks. flat_map (candidate_line t) ks) j.1 ∙ sym is)

-- the engine is refused for its first input
pub first_refused : (inputs : Inputs) (fault : ToolFault) → IsBundlesFault inputs.bundles fault → AreRefused inputs fault
first_refused inputs (tool.Bundles fault) why = why
first_refused inputs tool.OutOfMemory why = tt
first_refused inputs given why = inl why

not_bundles : (number : ℕ) (why : ReadFault) (fault : BundleFault) → tool.Bundles fault ≡ read_fault_of number why → ⊥
not_bundles number reading.Stopped fault is = cc
not_bundles number reading.TooMuch fault is = cc
not_bundles number reading.OutOfMemory fault is = cc

-- the engine is refused for its second input
pub second_refused : (inputs : Inputs) (fault : ToolFault) (bundles : List Bundle) → AreBundlesRead inputs.bundles bundles → IsUnread 2 inputs.tokens fault → AreRefused inputs fault
second_refused inputs (tool.Bundles fault) bundles read unread = absurd (not_bundles 2 unread.why fault unread.is)
second_refused inputs tool.OutOfMemory bundles read unread = tt
second_refused inputs given bundles read unread = inr (record { bundles = bundles; bundles_read = read; why = unread })

-- memory was refused for the first input
pub first_wants : (inputs : Inputs) (kept : Type 0) (fault : ToolFault) → IsBundlesFault inputs.bundles fault → kept → fault ≡ tool.OutOfMemory → IsWanting inputs kept
first_wants inputs kept fault why same is = inl (subst (IsBundlesFault inputs.bundles) is why, same)

-- memory was refused for the bytes of the second input
pub second_wants : (inputs : Inputs) (kept : Type 0) (fault : ToolFault) (bundles : List Bundle) → AreBundlesRead inputs.bundles bundles → IsUnread 2 inputs.tokens fault → fault ≡ tool.OutOfMemory → IsWanting inputs kept
second_wants inputs kept fault bundles read unread is = inr (record { bundles = bundles; bundles_read = read; why = inl (subst (IsUnread 2 inputs.tokens) is unread) })

-- memory was refused for the answer
pub answer_wants : (inputs : Inputs) (kept : Type 0) (bundles : List Bundle) (text : List ℕ) → AreBundlesRead inputs.bundles bundles → IsRead inputs.tokens most_bytes text → IsWanting inputs kept
answer_wants inputs kept bundles text first second = inr (record { bundles = bundles; bundles_read = first; why = inr (record { text = text; read = second }) })

-- no input is refused with the fault of a write
no_write : (inputs : Inputs) → AreRefused inputs tool.Write → ⊥
no_write inputs (inl first) = not_write 1 inputs.bundles first
no_write inputs (inr second) = not_write 2 inputs.tokens second.why

-- the engine gives up for its inputs
pub inputs_refused : (inputs : Inputs) (out : Taken) (fault : ToolFault) → AreRefused inputs fault → IsCandidatesFault inputs out fault
inputs_refused inputs out tool.Write why = absurd (no_write inputs why)
inputs_refused inputs out given why = why
